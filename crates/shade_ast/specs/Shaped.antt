-- The shape of a tree, where these are the texts of its names.
use Rattle.std.specs.Prelude.{ℕ, Bool, List, [], ◌∷◌, map, Option, None, Some, option_map, slice_index_or}
use Rattle.shade_base.specs.declared.place.Place.{Place}
use Rattle.shade_ast.specs.declared.attr.Attr.{Attr}
use Rattle.shade_ast.specs.declared.attr.AttrName.{AttrName}
use Rattle.shade_ast.specs.declared.attr.AttrName.TheVariants as attr
use Rattle.shade_ast.specs.declared.attr.Arguments.{Arguments}
use Rattle.shade_ast.specs.declared.expr.Expr.{Expr, Expr-F, fold-Expr}
use Rattle.shade_ast.specs.declared.expr.ExprKind.{ExprKind-F}
use Rattle.shade_ast.specs.declared.expr.ExprKind.TheOpen as kind
use Rattle.shade_ast.specs.declared.expr.Named.{Named}
use Rattle.shade_ast.specs.declared.stmt.Var.{Var}
use Rattle.shade_ast.specs.declared.stmt.VarSpace.{VarSpace}
use Rattle.shade_ast.specs.declared.stmt.Binding.{Binding}
use Rattle.shade_ast.specs.declared.stmt.Update.{Update}
use Rattle.shade_ast.specs.declared.stmt.Update.TheVariants as update
use Rattle.shade_ast.specs.declared.stmt.Simple.{Simple}
use Rattle.shade_ast.specs.declared.stmt.Simple.TheVariants as simple
use Rattle.shade_ast.specs.declared.stmt.Selector.{Selector}
use Rattle.shade_ast.specs.declared.stmt.Selector.TheVariants as selector
use Rattle.shade_ast.specs.declared.stmt.BreakIf.{BreakIf}
use Rattle.shade_ast.specs.declared.stmt.Clause.{Clause-F}
use Rattle.shade_ast.specs.declared.stmt.StmtKind.{StmtKind-F}
use Rattle.shade_ast.specs.declared.stmt.Clause.TheOpen as open_stmt
use Rattle.shade_ast.specs.declared.stmt.Arm.{Arm-F}
use Rattle.shade_ast.specs.declared.stmt.Block.{Block, Block-F, fold-Block}
use Rattle.shade_ast.specs.declared.stmt.Continuing.{Continuing-F}
use Rattle.shade_ast.specs.declared.stmt.Otherwise.{Otherwise-F}
use Rattle.shade_ast.specs.declared.stmt.Stmt.{Stmt, Stmt-F, fold-Stmt}
use Rattle.shade_ast.specs.declared.tree.Decl.{Decl}
use Rattle.shade_ast.specs.declared.tree.DeclKind.{DeclKind}
use Rattle.shade_ast.specs.declared.tree.DeclKind.TheVariants as decl
use Rattle.shade_ast.specs.declared.tree.Directive.{Directive}
use Rattle.shade_ast.specs.declared.tree.DirectiveKind.{DirectiveKind}
use Rattle.shade_ast.specs.declared.tree.DirectiveKind.TheVariants as directive
use Rattle.shade_ast.specs.declared.tree.FnResult.{FnResult}
use Rattle.shade_ast.specs.declared.tree.Member.{Member}
use Rattle.shade_ast.specs.declared.tree.Rule.{Rule}
use Rattle.shade_ast.specs.declared.tree.Rule.TheVariants as rule
use Rattle.shade_ast.specs.declared.tree.Tree.{Tree}
use Rattle.shade_ast.specs.Shapes.{NameShape, ExprShape, ExprShapes, infixed, prefixed, member, index, call, template, named, number, truth, falsity, paren, no_exprs, exprs}
use Rattle.shade_ast.specs.Shapes.{AttrNameShape, attr_name, attr_diagnostic, attr_const, AttrShape, VarSpaceShape, VarShape, BindingShape, UpdateShape, assign, compound, phony, increment, decrement, call_alone}
use Rattle.shade_ast.specs.Shapes.{SimpleShape, var_simple, const_simple, let_simple, update_simple, SelectorShape, default_selector, value_selector, BreakIfShape}
use Rattle.shade_ast.specs.Shapes.{StmtShape, empty_stmt, block_stmt, simple_stmt, return_stmt, break_stmt, continue_stmt, discard_stmt, assert_stmt, if_stmt, switch_stmt, loop_stmt, for_stmt, while_stmt}
use Rattle.shade_ast.specs.Shapes.{StmtShapes, no_stmts, stmts, BlockShape, braces, ArmShapes, no_arms, else_arm, else_if_arm, ClauseShapes, no_clauses, case_clause, default_clause, ContinuingShape, no_continuing, continuing_part}
use Rattle.shade_ast.specs.Shapes.{MemberShape, ResultShape, DeclShape, empty_decl, alias_decl, const_decl, assert_decl, struct_decl, var_decl, override_decl, fn_decl, RuleShape, plain_rule, scoped_rule, DirectiveShape, diagnostic_directive, requires_directive, enable_directive, TreeShape}

abbrev pub expr_shapes : List ExprShape → ExprShapes
expr_shapes [] = no_exprs
expr_shapes (e ∷ es) = exprs e (expr_shapes es)

abbrev pub name_shape : List (List ℕ) → Named → NameShape
name_shape names n = record { place = n.place; text = slice_index_or names n.name [] }

-- what an expression is, at its place
abbrev pub kind_step : List (List ℕ) → ExprKind-F (Place → ExprShape) ExprShape → Place → ExprShape
kind_step names (kind.Infix left operator at right) place = infixed place left operator at right
kind_step names (kind.Prefix operator operand) place = prefixed place operator operand
kind_step names (kind.Member whole dot name) place = member place whole dot (name_shape names name)
kind_step names (kind.Index whole bracket at) place = index place whole bracket at
kind_step names (kind.Call callee arguments trailing) place = call place callee (expr_shapes arguments) trailing
kind_step names (kind.Template name arguments trailing) place = template place (slice_index_or names name []) (expr_shapes arguments) trailing
kind_step names (kind.Name name) place = named place (slice_index_or names name [])
kind_step names (kind.Number value suffix) place = number place value suffix
kind_step names kind.True place = truth place
kind_step names kind.False place = falsity place
kind_step names (kind.Paren inner) place = paren place inner

abbrev pub expr_step : Expr-F (Place → ExprShape) ExprShape → ExprShape
expr_step e = e.kind e.place

abbrev pub expr_shape : List (List ℕ) → Expr → ExprShape
expr_shape names = fold-Expr (Place → ExprShape) ExprShape (kind_step names) expr_step

abbrev pub attr_name_shape : List (List ℕ) → AttrName → AttrNameShape
attr_name_shape names (attr.Name n) = attr_name (name_shape names n)
attr_name_shape names (attr.Diagnostic place) = attr_diagnostic place
attr_name_shape names (attr.Const place) = attr_const place

abbrev pub arguments_shape : List (List ℕ) → Arguments → ExprShapes × Bool
arguments_shape names a = (expr_shapes (map (expr_shape names) a.items), a.trailing)

abbrev pub attr_shape : List (List ℕ) → Attr → AttrShape
attr_shape names a = record { place = a.place; name = attr_name_shape names a.name; arguments = option_map (arguments_shape names) a.arguments }

abbrev pub attr_shapes : List (List ℕ) → List Attr → List AttrShape
attr_shapes names attrs = map (attr_shape names) attrs

abbrev pub var_space_shape : List (List ℕ) → VarSpace → VarSpaceShape
var_space_shape names s = record { space = name_shape names s.space; access = option_map (name_shape names) s.access; trailing = s.trailing }

abbrev pub var_shape : List (List ℕ) → Var → VarShape
var_shape names v = record { place = v.keyword; space = option_map (var_space_shape names) v.space; name = name_shape names v.name; ty = option_map (expr_shape names) v.ty; value = option_map (expr_shape names) v.value }

abbrev pub binding_shape : List (List ℕ) → Binding → BindingShape
binding_shape names b = record { place = b.keyword; name = name_shape names b.name; ty = option_map (expr_shape names) b.ty; value = expr_shape names b.value }

abbrev pub update_shape : List (List ℕ) → Update → UpdateShape
update_shape names (update.Assign target at value) = assign (expr_shape names target) at (expr_shape names value)
update_shape names (update.Compound target operator at value) = compound (expr_shape names target) operator at (expr_shape names value)
update_shape names (update.Phony underscore at value) = phony underscore at (expr_shape names value)
update_shape names (update.Increment target at) = increment (expr_shape names target) at
update_shape names (update.Decrement target at) = decrement (expr_shape names target) at
update_shape names (update.Call e) = call_alone (expr_shape names e)

abbrev pub simple_shape : List (List ℕ) → Simple → SimpleShape
simple_shape names (simple.Var v) = var_simple (var_shape names v)
simple_shape names (simple.Const b) = const_simple (binding_shape names b)
simple_shape names (simple.Let b) = let_simple (binding_shape names b)
simple_shape names (simple.Update u) = update_simple (update_shape names u)

abbrev pub selector_shape : List (List ℕ) → Selector → SelectorShape
selector_shape names (selector.Default place) = default_selector place
selector_shape names (selector.Value e) = value_selector (expr_shape names e)

abbrev pub break_if_shape : List (List ℕ) → BreakIf → BreakIfShape
break_if_shape names b = record { break_place = b.break_keyword; if_place = b.if_keyword; condition = expr_shape names b.condition }

abbrev pub stmt_shapes : List StmtShape → StmtShapes
stmt_shapes [] = no_stmts
stmt_shapes (s ∷ ss) = stmts s (stmt_shapes ss)

-- clauses, each before others
abbrev pub clause_shapes : List (ClauseShapes → ClauseShapes) → ClauseShapes
clause_shapes [] = no_clauses
clause_shapes (c ∷ cs) = c (clause_shapes cs)

-- the arms before a last `else`
abbrev pub arm_shapes : List (ArmShapes → ArmShapes) → Option ArmShapes → ArmShapes
arm_shapes [] None = no_arms
arm_shapes [] (Some otherwise) = otherwise
arm_shapes (arm ∷ arms) otherwise = arm (arm_shapes arms otherwise)

abbrev pub maybe_continuing : Option ContinuingShape → ContinuingShape
maybe_continuing None = no_continuing
maybe_continuing (Some part) = part

-- a layer of statements whose parts are shapes
abbrev pub ClauseLayer : Type 0
ClauseLayer = Clause-F (ClauseShapes → ClauseShapes) (Place → StmtShape) (ArmShapes → ArmShapes) BlockShape ContinuingShape ArmShapes StmtShape

abbrev pub StmtKindLayer : Type 0
StmtKindLayer = StmtKind-F (ClauseShapes → ClauseShapes) (Place → StmtShape) (ArmShapes → ArmShapes) BlockShape ContinuingShape ArmShapes StmtShape

abbrev pub ArmLayer : Type 0
ArmLayer = Arm-F (ClauseShapes → ClauseShapes) (Place → StmtShape) (ArmShapes → ArmShapes) BlockShape ContinuingShape ArmShapes StmtShape

abbrev pub BlockLayer : Type 0
BlockLayer = Block-F (ClauseShapes → ClauseShapes) (Place → StmtShape) (ArmShapes → ArmShapes) BlockShape ContinuingShape ArmShapes StmtShape

abbrev pub ContinuingLayer : Type 0
ContinuingLayer = Continuing-F (ClauseShapes → ClauseShapes) (Place → StmtShape) (ArmShapes → ArmShapes) BlockShape ContinuingShape ArmShapes StmtShape

abbrev pub OtherwiseLayer : Type 0
OtherwiseLayer = Otherwise-F (ClauseShapes → ClauseShapes) (Place → StmtShape) (ArmShapes → ArmShapes) BlockShape ContinuingShape ArmShapes StmtShape

abbrev pub StmtLayer : Type 0
StmtLayer = Stmt-F (ClauseShapes → ClauseShapes) (Place → StmtShape) (ArmShapes → ArmShapes) BlockShape ContinuingShape ArmShapes StmtShape

abbrev pub clause_step : List (List ℕ) → ClauseLayer → ClauseShapes → ClauseShapes
clause_step names (open_stmt.Case keyword selectors trailing colon body) others = case_clause keyword (map (selector_shape names) selectors) trailing colon body others
clause_step names (open_stmt.Default keyword colon body) others = default_clause keyword colon body others

abbrev pub stmt_kind_step : List (List ℕ) → StmtKindLayer → Place → StmtShape
stmt_kind_step names open_stmt.Empty place = empty_stmt place
stmt_kind_step names (open_stmt.Block block) place = block_stmt place block
stmt_kind_step names (open_stmt.Simple s) place = simple_stmt place (simple_shape names s)
stmt_kind_step names (open_stmt.Return value) place = return_stmt place (option_map (expr_shape names) value)
stmt_kind_step names open_stmt.Break place = break_stmt place
stmt_kind_step names open_stmt.Continue place = continue_stmt place
stmt_kind_step names open_stmt.Discard place = discard_stmt place
stmt_kind_step names (open_stmt.ConstAssert condition) place = assert_stmt place (expr_shape names condition)
stmt_kind_step names (open_stmt.If attrs keyword condition then arms otherwise) place = if_stmt place (attr_shapes names attrs) keyword (expr_shape names condition) then (arm_shapes arms otherwise)
stmt_kind_step names (open_stmt.Switch attrs keyword chosen inner clauses end) place = switch_stmt place (attr_shapes names attrs) keyword (expr_shape names chosen) (attr_shapes names inner) (clause_shapes clauses) end
stmt_kind_step names (open_stmt.Loop attrs keyword inner body continuing end) place = loop_stmt place (attr_shapes names attrs) keyword (attr_shapes names inner) (stmt_shapes body) (maybe_continuing continuing) end
stmt_kind_step names (open_stmt.For attrs keyword initial condition changed body) place = for_stmt place (attr_shapes names attrs) keyword (option_map (simple_shape names) initial) (option_map (expr_shape names) condition) (option_map (update_shape names) changed) body
stmt_kind_step names (open_stmt.While attrs keyword condition body) place = while_stmt place (attr_shapes names attrs) keyword (expr_shape names condition) body

abbrev pub arm_step : List (List ℕ) → ArmLayer → ArmShapes → ArmShapes
arm_step names a others = else_if_arm a.else_keyword a.if_keyword (expr_shape names a.condition) a.body others

abbrev pub block_step : List (List ℕ) → BlockLayer → BlockShape
block_step names b = braces b.place (attr_shapes names b.attrs) (stmt_shapes b.body) b.end

abbrev pub continuing_step : List (List ℕ) → ContinuingLayer → ContinuingShape
continuing_step names c = continuing_part c.keyword (attr_shapes names c.attrs) (stmt_shapes c.body) (option_map (break_if_shape names) c.leave) c.end

abbrev pub otherwise_step : OtherwiseLayer → ArmShapes
otherwise_step o = else_arm o.keyword o.body

abbrev pub stmt_step : StmtLayer → StmtShape
stmt_step s = s.kind s.place

abbrev pub stmt_shape : List (List ℕ) → Stmt → StmtShape
stmt_shape names = fold-Stmt (ClauseShapes → ClauseShapes) (Place → StmtShape) (ArmShapes → ArmShapes) BlockShape ContinuingShape ArmShapes StmtShape (clause_step names) (stmt_kind_step names) (arm_step names) (block_step names) (continuing_step names) otherwise_step stmt_step

abbrev pub block_shape : List (List ℕ) → Block → BlockShape
block_shape names = fold-Block (ClauseShapes → ClauseShapes) (Place → StmtShape) (ArmShapes → ArmShapes) BlockShape ContinuingShape ArmShapes StmtShape (clause_step names) (stmt_kind_step names) (arm_step names) (block_step names) (continuing_step names) otherwise_step stmt_step

abbrev pub member_shape : List (List ℕ) → Member → MemberShape
member_shape names m = record { place = m.place; attrs = attr_shapes names m.attrs; name = name_shape names m.name; ty = expr_shape names m.ty }

abbrev pub result_shape : List (List ℕ) → FnResult → ResultShape
result_shape names r = record { attrs = attr_shapes names r.attrs; ty = expr_shape names r.ty }

abbrev pub decl_kind_shape : List (List ℕ) → Place → DeclKind → DeclShape
decl_kind_shape names place decl.Empty = empty_decl place
decl_kind_shape names place (decl.Alias name ty) = alias_decl place (name_shape names name) (expr_shape names ty)
decl_kind_shape names place (decl.Const b) = const_decl place (binding_shape names b)
decl_kind_shape names place (decl.ConstAssert condition) = assert_decl place (expr_shape names condition)
decl_kind_shape names place (decl.Struct name members trailing end) = struct_decl place (name_shape names name) (map (member_shape names) members) trailing end
decl_kind_shape names place (decl.Var attrs v) = var_decl place (attr_shapes names attrs) (var_shape names v)
decl_kind_shape names place (decl.Override attrs keyword name ty value) = override_decl place (attr_shapes names attrs) keyword (name_shape names name) (option_map (expr_shape names) ty) (option_map (expr_shape names) value)
decl_kind_shape names place (decl.Fn attrs keyword name params trailing result body) = fn_decl place (attr_shapes names attrs) keyword (name_shape names name) (map (member_shape names) params) trailing (option_map (result_shape names) result) (block_shape names body)

abbrev pub decl_shape : List (List ℕ) → Decl → DeclShape
decl_shape names d = decl_kind_shape names d.place d.kind

abbrev pub rule_shape : List (List ℕ) → Rule → RuleShape
rule_shape names (rule.Plain name) = plain_rule (name_shape names name)
rule_shape names (rule.Scoped scope dot name) = scoped_rule (name_shape names scope) dot (name_shape names name)

abbrev pub directive_kind_shape : List (List ℕ) → Place → DirectiveKind → DirectiveShape
directive_kind_shape names place (directive.Diagnostic severity r trailing) = diagnostic_directive place (name_shape names severity) (rule_shape names r) trailing
directive_kind_shape names place (directive.Requires listed trailing) = requires_directive place (map (name_shape names) listed) trailing
directive_kind_shape names place (directive.Enable listed trailing) = enable_directive place (map (name_shape names) listed) trailing

abbrev pub directive_shape : List (List ℕ) → Directive → DirectiveShape
directive_shape names d = directive_kind_shape names d.place d.kind

abbrev pub tree_shape : Tree → TreeShape
tree_shape t = record { directives = map (directive_shape t.names) t.directives; decls = map (decl_shape t.names) t.decls }

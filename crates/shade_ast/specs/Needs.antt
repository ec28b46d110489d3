-- How many names a tree needs: one more than the greatest number of a name in it, and none where it has no name. A tree knows
-- its names where there are so many.
use Rattle.std.specs.Prelude.{ℕ, ◌+◌, max, List, [], ◌∷◌, map, Option, None, Some, option_map}
use Rattle.shade_ast.specs.declared.attr.Attr.{Attr}
use Rattle.shade_ast.specs.declared.attr.AttrName.{AttrName}
use Rattle.shade_ast.specs.declared.attr.AttrName.TheVariants as attr
use Rattle.shade_ast.specs.declared.attr.Arguments.{Arguments}
use Rattle.shade_ast.specs.declared.expr.Expr.{Expr, Expr-F, fold-Expr}
use Rattle.shade_ast.specs.declared.expr.ExprKind.{ExprKind-F}
use Rattle.shade_ast.specs.declared.expr.ExprKind.TheOpen as kind
use Rattle.shade_ast.specs.declared.expr.Named.{Named}
use Rattle.shade_ast.specs.declared.stmt.Var.{Var}
use Rattle.shade_ast.specs.declared.stmt.VarSpace.{VarSpace}
use Rattle.shade_ast.specs.declared.stmt.Binding.{Binding}
use Rattle.shade_ast.specs.declared.stmt.Update.{Update}
use Rattle.shade_ast.specs.declared.stmt.Update.TheVariants as update
use Rattle.shade_ast.specs.declared.stmt.Simple.{Simple}
use Rattle.shade_ast.specs.declared.stmt.Simple.TheVariants as simple
use Rattle.shade_ast.specs.declared.stmt.Selector.{Selector}
use Rattle.shade_ast.specs.declared.stmt.Selector.TheVariants as selector
use Rattle.shade_ast.specs.declared.stmt.BreakIf.{BreakIf}
use Rattle.shade_ast.specs.declared.stmt.Clause.{Clause-F}
use Rattle.shade_ast.specs.declared.stmt.Clause.TheOpen as open_stmt
use Rattle.shade_ast.specs.declared.stmt.StmtKind.{StmtKind-F}
use Rattle.shade_ast.specs.declared.stmt.Arm.{Arm-F}
use Rattle.shade_ast.specs.declared.stmt.Block.{Block, Block-F, fold-Block}
use Rattle.shade_ast.specs.declared.stmt.Continuing.{Continuing-F}
use Rattle.shade_ast.specs.declared.stmt.Otherwise.{Otherwise-F}
use Rattle.shade_ast.specs.declared.stmt.Stmt.{Stmt, Stmt-F, fold-Stmt}
use Rattle.shade_ast.specs.declared.tree.Decl.{Decl}
use Rattle.shade_ast.specs.declared.tree.DeclKind.{DeclKind}
use Rattle.shade_ast.specs.declared.tree.DeclKind.TheVariants as decl
use Rattle.shade_ast.specs.declared.tree.Directive.{Directive}
use Rattle.shade_ast.specs.declared.tree.DirectiveKind.{DirectiveKind}
use Rattle.shade_ast.specs.declared.tree.DirectiveKind.TheVariants as directive
use Rattle.shade_ast.specs.declared.tree.FnResult.{FnResult}
use Rattle.shade_ast.specs.declared.tree.Member.{Member}
use Rattle.shade_ast.specs.declared.tree.Rule.{Rule}
use Rattle.shade_ast.specs.declared.tree.Rule.TheVariants as rule
use Rattle.shade_ast.specs.declared.tree.Tree.{Tree}

abbrev pub most : List ℕ → ℕ
most [] = 0
most (n ∷ ns) = max n (most ns)

abbrev pub most_of : {A : Type 0} → (A → ℕ) → List A → ℕ
most_of f l = most (map f l)

abbrev pub maybe_most : Option ℕ → ℕ
maybe_most None = 0
maybe_most (Some n) = n

abbrev pub maybe_of : {A : Type 0} → (A → ℕ) → Option A → ℕ
maybe_of f o = maybe_most (option_map f o)

abbrev pub named_needs : Named → ℕ
named_needs n = n.name + 1

abbrev pub kind_needs : ExprKind-F ℕ ℕ → ℕ
kind_needs (kind.Infix left operator at right) = max left right
kind_needs (kind.Prefix operator operand) = operand
kind_needs (kind.Member whole dot name) = max whole (named_needs name)
kind_needs (kind.Index whole bracket at) = max whole at
kind_needs (kind.Call callee arguments trailing) = max callee (most arguments)
kind_needs (kind.Template name arguments trailing) = max (name + 1) (most arguments)
kind_needs (kind.Name name) = name + 1
kind_needs (kind.Number value suffix) = 0
kind_needs kind.True = 0
kind_needs kind.False = 0
kind_needs (kind.Paren inner) = inner

abbrev pub expr_layer_needs : Expr-F ℕ ℕ → ℕ
expr_layer_needs e = e.kind

abbrev pub expr_needs : Expr → ℕ
expr_needs = fold-Expr ℕ ℕ kind_needs expr_layer_needs

abbrev pub attr_name_needs : AttrName → ℕ
attr_name_needs (attr.Name n) = named_needs n
attr_name_needs (attr.Diagnostic place) = 0
attr_name_needs (attr.Const place) = 0

abbrev pub arguments_need : Arguments → ℕ
arguments_need a = most_of expr_needs a.items

abbrev pub attr_needs : Attr → ℕ
attr_needs a = max (attr_name_needs a.name) (maybe_of arguments_need a.arguments)

abbrev pub attrs_need : List Attr → ℕ
attrs_need attrs = most_of attr_needs attrs

abbrev pub var_space_needs : VarSpace → ℕ
var_space_needs s = max (named_needs s.space) (maybe_of named_needs s.access)

abbrev pub var_needs : Var → ℕ
var_needs v = max (maybe_of var_space_needs v.space) (max (named_needs v.name) (max (maybe_of expr_needs v.ty) (maybe_of expr_needs v.value)))

abbrev pub binding_needs : Binding → ℕ
binding_needs b = max (named_needs b.name) (max (maybe_of expr_needs b.ty) (expr_needs b.value))

abbrev pub update_needs : Update → ℕ
update_needs (update.Assign target at value) = max (expr_needs target) (expr_needs value)
update_needs (update.Compound target operator at value) = max (expr_needs target) (expr_needs value)
update_needs (update.Phony underscore at value) = expr_needs value
update_needs (update.Increment target at) = expr_needs target
update_needs (update.Decrement target at) = expr_needs target
update_needs (update.Call e) = expr_needs e

abbrev pub simple_needs : Simple → ℕ
simple_needs (simple.Var v) = var_needs v
simple_needs (simple.Const b) = binding_needs b
simple_needs (simple.Let b) = binding_needs b
simple_needs (simple.Update u) = update_needs u

abbrev pub selector_needs : Selector → ℕ
selector_needs (selector.Default place) = 0
selector_needs (selector.Value e) = expr_needs e

abbrev pub break_if_needs : BreakIf → ℕ
break_if_needs b = expr_needs b.condition

-- a layer of statements whose parts are numbers
abbrev pub clause_needs : Clause-F ℕ ℕ ℕ ℕ ℕ ℕ ℕ → ℕ
clause_needs (open_stmt.Case keyword selectors trailing colon body) = max (most_of selector_needs selectors) body
clause_needs (open_stmt.Default keyword colon body) = body

abbrev pub stmt_kind_needs : StmtKind-F ℕ ℕ ℕ ℕ ℕ ℕ ℕ → ℕ
stmt_kind_needs open_stmt.Empty = 0
stmt_kind_needs (open_stmt.Block block) = block
stmt_kind_needs (open_stmt.Simple s) = simple_needs s
stmt_kind_needs (open_stmt.Return value) = maybe_of expr_needs value
stmt_kind_needs open_stmt.Break = 0
stmt_kind_needs open_stmt.Continue = 0
stmt_kind_needs open_stmt.Discard = 0
stmt_kind_needs (open_stmt.ConstAssert condition) = expr_needs condition
stmt_kind_needs (open_stmt.If attrs keyword condition then arms otherwise) = max (attrs_need attrs) (max (expr_needs condition) (max then (max (most arms) (maybe_most otherwise))))
stmt_kind_needs (open_stmt.Switch attrs keyword chosen inner clauses end) = max (attrs_need attrs) (max (expr_needs chosen) (max (attrs_need inner) (most clauses)))
stmt_kind_needs (open_stmt.Loop attrs keyword inner body continuing end) = max (attrs_need attrs) (max (attrs_need inner) (max (most body) (maybe_most continuing)))
stmt_kind_needs (open_stmt.For attrs keyword initial condition changed body) = max (attrs_need attrs) (max (maybe_of simple_needs initial) (max (maybe_of expr_needs condition) (max (maybe_of update_needs changed) body)))
stmt_kind_needs (open_stmt.While attrs keyword condition body) = max (attrs_need attrs) (max (expr_needs condition) body)

abbrev pub arm_needs : Arm-F ℕ ℕ ℕ ℕ ℕ ℕ ℕ → ℕ
arm_needs a = max (expr_needs a.condition) a.body

abbrev pub block_layer_needs : Block-F ℕ ℕ ℕ ℕ ℕ ℕ ℕ → ℕ
block_layer_needs b = max (attrs_need b.attrs) (most b.body)

abbrev pub continuing_needs : Continuing-F ℕ ℕ ℕ ℕ ℕ ℕ ℕ → ℕ
continuing_needs c = max (attrs_need c.attrs) (max (most c.body) (maybe_of break_if_needs c.leave))

abbrev pub otherwise_needs : Otherwise-F ℕ ℕ ℕ ℕ ℕ ℕ ℕ → ℕ
otherwise_needs o = o.body

abbrev pub stmt_layer_needs : Stmt-F ℕ ℕ ℕ ℕ ℕ ℕ ℕ → ℕ
stmt_layer_needs s = s.kind

abbrev pub stmt_needs : Stmt → ℕ
stmt_needs = fold-Stmt ℕ ℕ ℕ ℕ ℕ ℕ ℕ clause_needs stmt_kind_needs arm_needs block_layer_needs continuing_needs otherwise_needs stmt_layer_needs

abbrev pub block_needs : Block → ℕ
block_needs = fold-Block ℕ ℕ ℕ ℕ ℕ ℕ ℕ clause_needs stmt_kind_needs arm_needs block_layer_needs continuing_needs otherwise_needs stmt_layer_needs

abbrev pub member_needs : Member → ℕ
member_needs m = max (attrs_need m.attrs) (max (named_needs m.name) (expr_needs m.ty))

abbrev pub result_needs : FnResult → ℕ
result_needs r = max (attrs_need r.attrs) (expr_needs r.ty)

abbrev pub decl_kind_needs : DeclKind → ℕ
decl_kind_needs decl.Empty = 0
decl_kind_needs (decl.Alias name ty) = max (named_needs name) (expr_needs ty)
decl_kind_needs (decl.Const b) = binding_needs b
decl_kind_needs (decl.ConstAssert condition) = expr_needs condition
decl_kind_needs (decl.Struct name members trailing end) = max (named_needs name) (most_of member_needs members)
decl_kind_needs (decl.Var attrs v) = max (attrs_need attrs) (var_needs v)
decl_kind_needs (decl.Override attrs keyword name ty value) = max (attrs_need attrs) (max (named_needs name) (max (maybe_of expr_needs ty) (maybe_of expr_needs value)))
decl_kind_needs (decl.Fn attrs keyword name params trailing result body) = max (attrs_need attrs) (max (named_needs name) (max (most_of member_needs params) (max (maybe_of result_needs result) (block_needs body))))

abbrev pub decl_needs : Decl → ℕ
decl_needs d = decl_kind_needs d.kind

abbrev pub rule_needs : Rule → ℕ
rule_needs (rule.Plain name) = named_needs name
rule_needs (rule.Scoped scope dot name) = max (named_needs scope) (named_needs name)

abbrev pub directive_kind_needs : DirectiveKind → ℕ
directive_kind_needs (directive.Diagnostic severity r trailing) = max (named_needs severity) (rule_needs r)
directive_kind_needs (directive.Requires listed trailing) = most_of named_needs listed
directive_kind_needs (directive.Enable listed trailing) = most_of named_needs listed

abbrev pub directive_needs : Directive → ℕ
directive_needs d = directive_kind_needs d.kind

abbrev pub tree_needs : Tree → ℕ
tree_needs t = max (most_of directive_needs t.directives) (most_of decl_needs t.decls)

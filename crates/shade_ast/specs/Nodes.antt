-- The numbers of a tree's nodes in postorder: those of the parts of a node, in the order of its alternative, and then its own.
-- Nodes are expressions, types, names, attributes, blocks, statements, members, directives and declarations.
use Rattle.std.specs.Prelude.{◌≡◌, ℕ, ◌+◌, List, [], ◌∷◌, ◌++◌, map, Option, None, Some, option_map}
use Rattle.shade_ast.specs.declared.attr.Attr.{Attr}
use Rattle.shade_ast.specs.declared.attr.AttrName.{AttrName}
use Rattle.shade_ast.specs.declared.attr.AttrName.TheVariants as attr
use Rattle.shade_ast.specs.declared.attr.Arguments.{Arguments}
use Rattle.shade_ast.specs.declared.expr.Expr.{Expr, Expr-F, fold-Expr}
use Rattle.shade_ast.specs.declared.expr.ExprKind.{ExprKind-F}
use Rattle.shade_ast.specs.declared.expr.ExprKind.TheOpen as kind
use Rattle.shade_ast.specs.declared.expr.Named.{Named}
use Rattle.shade_ast.specs.declared.stmt.Var.{Var}
use Rattle.shade_ast.specs.declared.stmt.VarSpace.{VarSpace}
use Rattle.shade_ast.specs.declared.stmt.Binding.{Binding}
use Rattle.shade_ast.specs.declared.stmt.Update.{Update}
use Rattle.shade_ast.specs.declared.stmt.Update.TheVariants as update
use Rattle.shade_ast.specs.declared.stmt.Simple.{Simple}
use Rattle.shade_ast.specs.declared.stmt.Simple.TheVariants as simple
use Rattle.shade_ast.specs.declared.stmt.Selector.{Selector}
use Rattle.shade_ast.specs.declared.stmt.Selector.TheVariants as selector
use Rattle.shade_ast.specs.declared.stmt.BreakIf.{BreakIf}
use Rattle.shade_ast.specs.declared.stmt.Clause.{Clause-F}
use Rattle.shade_ast.specs.declared.stmt.Clause.TheOpen as open_stmt
use Rattle.shade_ast.specs.declared.stmt.StmtKind.{StmtKind-F}
use Rattle.shade_ast.specs.declared.stmt.Arm.{Arm-F}
use Rattle.shade_ast.specs.declared.stmt.Block.{Block, Block-F, fold-Block}
use Rattle.shade_ast.specs.declared.stmt.Continuing.{Continuing-F}
use Rattle.shade_ast.specs.declared.stmt.Otherwise.{Otherwise-F}
use Rattle.shade_ast.specs.declared.stmt.Stmt.{Stmt, Stmt-F, fold-Stmt}
use Rattle.shade_ast.specs.declared.tree.Decl.{Decl}
use Rattle.shade_ast.specs.declared.tree.DeclKind.{DeclKind}
use Rattle.shade_ast.specs.declared.tree.DeclKind.TheVariants as decl
use Rattle.shade_ast.specs.declared.tree.Directive.{Directive}
use Rattle.shade_ast.specs.declared.tree.DirectiveKind.{DirectiveKind}
use Rattle.shade_ast.specs.declared.tree.DirectiveKind.TheVariants as directive
use Rattle.shade_ast.specs.declared.tree.FnResult.{FnResult}
use Rattle.shade_ast.specs.declared.tree.Member.{Member}
use Rattle.shade_ast.specs.declared.tree.Rule.{Rule}
use Rattle.shade_ast.specs.declared.tree.Rule.TheVariants as rule
use Rattle.shade_ast.specs.declared.tree.Tree.{Tree}

abbrev pub joined : List (List ℕ) → List ℕ
joined [] = []
joined (ns ∷ others) = ns ++ joined others

abbrev pub joined_of : {A : Type 0} → (A → List ℕ) → List A → List ℕ
joined_of f l = joined (map f l)

abbrev pub maybe_nodes : Option (List ℕ) → List ℕ
maybe_nodes None = []
maybe_nodes (Some ns) = ns

abbrev pub maybe_of : {A : Type 0} → (A → List ℕ) → Option A → List ℕ
maybe_of f o = maybe_nodes (option_map f o)

abbrev pub named_nodes : Named → List ℕ
named_nodes n = n.node ∷ []

abbrev pub kind_nodes : ExprKind-F (List ℕ) (List ℕ) → List ℕ
kind_nodes (kind.Infix left operator at right) = left ++ right
kind_nodes (kind.Prefix operator operand) = operand
kind_nodes (kind.Member whole dot name) = whole ++ named_nodes name
kind_nodes (kind.Index whole bracket at) = whole ++ at
kind_nodes (kind.Call callee arguments trailing) = callee ++ joined arguments
kind_nodes (kind.Template name arguments trailing) = joined arguments
kind_nodes (kind.Name name) = []
kind_nodes (kind.Number value suffix) = []
kind_nodes kind.True = []
kind_nodes kind.False = []
kind_nodes (kind.Paren inner) = inner

abbrev pub expr_layer_nodes : Expr-F (List ℕ) (List ℕ) → List ℕ
expr_layer_nodes e = e.kind ++ e.node ∷ []

abbrev pub expr_nodes : Expr → List ℕ
expr_nodes = fold-Expr (List ℕ) (List ℕ) kind_nodes expr_layer_nodes

abbrev pub attr_name_nodes : AttrName → List ℕ
attr_name_nodes (attr.Name n) = named_nodes n
attr_name_nodes (attr.Diagnostic place) = []
attr_name_nodes (attr.Const place) = []

abbrev pub arguments_nodes : Arguments → List ℕ
arguments_nodes a = joined_of expr_nodes a.items

abbrev pub attr_nodes : Attr → List ℕ
attr_nodes a = attr_name_nodes a.name ++ (maybe_of arguments_nodes a.arguments ++ a.node ∷ [])

abbrev pub attrs_nodes : List Attr → List ℕ
attrs_nodes attrs = joined_of attr_nodes attrs

abbrev pub var_space_nodes : VarSpace → List ℕ
var_space_nodes s = named_nodes s.space ++ maybe_of named_nodes s.access

abbrev pub var_nodes : Var → List ℕ
var_nodes v = maybe_of var_space_nodes v.space ++ (named_nodes v.name ++ (maybe_of expr_nodes v.ty ++ maybe_of expr_nodes v.value))

abbrev pub binding_nodes : Binding → List ℕ
binding_nodes b = named_nodes b.name ++ (maybe_of expr_nodes b.ty ++ expr_nodes b.value)

abbrev pub update_nodes : Update → List ℕ
update_nodes (update.Assign target at value) = expr_nodes target ++ expr_nodes value
update_nodes (update.Compound target operator at value) = expr_nodes target ++ expr_nodes value
update_nodes (update.Phony underscore at value) = expr_nodes value
update_nodes (update.Increment target at) = expr_nodes target
update_nodes (update.Decrement target at) = expr_nodes target
update_nodes (update.Call e) = expr_nodes e

abbrev pub simple_nodes : Simple → List ℕ
simple_nodes (simple.Var v) = var_nodes v
simple_nodes (simple.Const b) = binding_nodes b
simple_nodes (simple.Let b) = binding_nodes b
simple_nodes (simple.Update u) = update_nodes u

abbrev pub selector_nodes : Selector → List ℕ
selector_nodes (selector.Default place) = []
selector_nodes (selector.Value e) = expr_nodes e

abbrev pub break_if_nodes : BreakIf → List ℕ
break_if_nodes b = expr_nodes b.condition

abbrev pub clause_nodes : Clause-F (List ℕ) (List ℕ) (List ℕ) (List ℕ) (List ℕ) (List ℕ) (List ℕ) → List ℕ
clause_nodes (open_stmt.Case keyword selectors trailing colon body) = joined_of selector_nodes selectors ++ body
clause_nodes (open_stmt.Default keyword colon body) = body

abbrev pub stmt_kind_nodes : StmtKind-F (List ℕ) (List ℕ) (List ℕ) (List ℕ) (List ℕ) (List ℕ) (List ℕ) → List ℕ
stmt_kind_nodes open_stmt.Empty = []
stmt_kind_nodes (open_stmt.Block block) = block
stmt_kind_nodes (open_stmt.Simple s) = simple_nodes s
stmt_kind_nodes (open_stmt.Return value) = maybe_of expr_nodes value
stmt_kind_nodes open_stmt.Break = []
stmt_kind_nodes open_stmt.Continue = []
stmt_kind_nodes open_stmt.Discard = []
stmt_kind_nodes (open_stmt.ConstAssert condition) = expr_nodes condition
stmt_kind_nodes (open_stmt.If attrs keyword condition then arms otherwise) = attrs_nodes attrs ++ (expr_nodes condition ++ (then ++ (joined arms ++ maybe_nodes otherwise)))
stmt_kind_nodes (open_stmt.Switch attrs keyword chosen inner clauses end) = attrs_nodes attrs ++ (expr_nodes chosen ++ (attrs_nodes inner ++ joined clauses))
stmt_kind_nodes (open_stmt.Loop attrs keyword inner body continuing end) = attrs_nodes attrs ++ (attrs_nodes inner ++ (joined body ++ maybe_nodes continuing))
stmt_kind_nodes (open_stmt.For attrs keyword initial condition changed body) = attrs_nodes attrs ++ (maybe_of simple_nodes initial ++ (maybe_of expr_nodes condition ++ (maybe_of update_nodes changed ++ body)))
stmt_kind_nodes (open_stmt.While attrs keyword condition body) = attrs_nodes attrs ++ (expr_nodes condition ++ body)

abbrev pub arm_nodes : Arm-F (List ℕ) (List ℕ) (List ℕ) (List ℕ) (List ℕ) (List ℕ) (List ℕ) → List ℕ
arm_nodes a = expr_nodes a.condition ++ a.body

abbrev pub block_layer_nodes : Block-F (List ℕ) (List ℕ) (List ℕ) (List ℕ) (List ℕ) (List ℕ) (List ℕ) → List ℕ
block_layer_nodes b = attrs_nodes b.attrs ++ (joined b.body ++ b.node ∷ [])

abbrev pub continuing_nodes : Continuing-F (List ℕ) (List ℕ) (List ℕ) (List ℕ) (List ℕ) (List ℕ) (List ℕ) → List ℕ
continuing_nodes c = attrs_nodes c.attrs ++ (joined c.body ++ maybe_of break_if_nodes c.leave)

abbrev pub otherwise_nodes : Otherwise-F (List ℕ) (List ℕ) (List ℕ) (List ℕ) (List ℕ) (List ℕ) (List ℕ) → List ℕ
otherwise_nodes o = o.body

abbrev pub stmt_layer_nodes : Stmt-F (List ℕ) (List ℕ) (List ℕ) (List ℕ) (List ℕ) (List ℕ) (List ℕ) → List ℕ
stmt_layer_nodes s = s.kind ++ s.node ∷ []

abbrev pub stmt_nodes : Stmt → List ℕ
stmt_nodes = fold-Stmt (List ℕ) (List ℕ) (List ℕ) (List ℕ) (List ℕ) (List ℕ) (List ℕ) clause_nodes stmt_kind_nodes arm_nodes block_layer_nodes continuing_nodes otherwise_nodes stmt_layer_nodes

abbrev pub block_nodes : Block → List ℕ
block_nodes = fold-Block (List ℕ) (List ℕ) (List ℕ) (List ℕ) (List ℕ) (List ℕ) (List ℕ) clause_nodes stmt_kind_nodes arm_nodes block_layer_nodes continuing_nodes otherwise_nodes stmt_layer_nodes

abbrev pub member_nodes : Member → List ℕ
member_nodes m = attrs_nodes m.attrs ++ (named_nodes m.name ++ (expr_nodes m.ty ++ m.node ∷ []))

abbrev pub result_nodes : FnResult → List ℕ
result_nodes r = attrs_nodes r.attrs ++ expr_nodes r.ty

abbrev pub decl_kind_nodes : DeclKind → List ℕ
decl_kind_nodes decl.Empty = []
decl_kind_nodes (decl.Alias name ty) = named_nodes name ++ expr_nodes ty
decl_kind_nodes (decl.Const b) = binding_nodes b
decl_kind_nodes (decl.ConstAssert condition) = expr_nodes condition
decl_kind_nodes (decl.Struct name members trailing end) = named_nodes name ++ joined_of member_nodes members
decl_kind_nodes (decl.Var attrs v) = attrs_nodes attrs ++ var_nodes v
decl_kind_nodes (decl.Override attrs keyword name ty value) = attrs_nodes attrs ++ (named_nodes name ++ (maybe_of expr_nodes ty ++ maybe_of expr_nodes value))
decl_kind_nodes (decl.Fn attrs keyword name params trailing result body) = attrs_nodes attrs ++ (named_nodes name ++ (joined_of member_nodes params ++ (maybe_of result_nodes result ++ block_nodes body)))

abbrev pub decl_nodes : Decl → List ℕ
decl_nodes d = decl_kind_nodes d.kind ++ d.node ∷ []

abbrev pub rule_nodes : Rule → List ℕ
rule_nodes (rule.Plain name) = named_nodes name
rule_nodes (rule.Scoped scope dot name) = named_nodes scope ++ named_nodes name

abbrev pub directive_kind_nodes : DirectiveKind → List ℕ
directive_kind_nodes (directive.Diagnostic severity r trailing) = named_nodes severity ++ rule_nodes r
directive_kind_nodes (directive.Requires listed trailing) = joined_of named_nodes listed
directive_kind_nodes (directive.Enable listed trailing) = joined_of named_nodes listed

abbrev pub directive_nodes : Directive → List ℕ
directive_nodes d = directive_kind_nodes d.kind ++ d.node ∷ []

abbrev pub tree_nodes : Tree → List ℕ
tree_nodes t = joined_of directive_nodes t.directives ++ joined_of decl_nodes t.decls

-- numbers that count from one up to below another
abbrev pub CountFrom : ℕ → List ℕ → ℕ → Type 0
CountFrom from [] to = from ≡ to
CountFrom from (n ∷ ns) to = (n ≡ from) × CountFrom (from + 1) ns to

-- The nodes of each kind of statement, by its parts.
use Rattle.std.proofs.Common.{◌≡◌, ap, ◌∙◌, ℕ, Bool, List, [], ◌∷◌, ◌++◌, Option, None, Some}
use Rattle.shade_base.specs.declared.place.Place.{Place}
use Rattle.shade_ast.specs.declared.attr.Attr.{Attr}
use Rattle.shade_ast.specs.declared.expr.Expr.{Expr}
use Rattle.shade_ast.specs.declared.stmt.Simple.{Simple as SimpleStatement}
use Rattle.shade_ast.specs.declared.stmt.Selector.{Selector}
use Rattle.shade_ast.specs.declared.stmt.Update.{Update}
use Rattle.shade_ast.specs.declared.stmt.Clause.TheVariants as clause
use Rattle.shade_ast.specs.declared.stmt.StmtKind.TheVariants as kind
use Rattle.shade_ast.specs.declared.stmt.Clause.{Clause, Clause-F, out-Clause, map-Clause, fold-Clause, fold_out-Clause}
use Rattle.shade_ast.specs.declared.stmt.StmtKind.{StmtKind, StmtKind-F, out-StmtKind, map-StmtKind, fold-StmtKind, fold_out-StmtKind}
use Rattle.shade_ast.specs.declared.stmt.Arm.{Arm, out-Arm, fold-Arm, fold_out-Arm}
use Rattle.shade_ast.specs.declared.stmt.Block.{Block, out-Block, fold-Block, fold_out-Block}
use Rattle.shade_ast.specs.declared.stmt.Continuing.{Continuing, out-Continuing, fold-Continuing, fold_out-Continuing}
use Rattle.shade_ast.specs.declared.stmt.Otherwise.{Otherwise, out-Otherwise, fold-Otherwise, fold_out-Otherwise}
use Rattle.shade_ast.specs.declared.stmt.Stmt.{Stmt, fold-Stmt, fold_out-Stmt}
use Rattle.shade_ast.specs.Nodes.{joined_of, maybe_of, expr_nodes, attrs_nodes, simple_nodes, selector_nodes, update_nodes, break_if_nodes, clause_nodes, stmt_kind_nodes, arm_nodes, block_layer_nodes, continuing_nodes, otherwise_nodes, stmt_layer_nodes}
use Rattle.shade_ast.specs.StmtParts.{clause_numbers, arm_numbers, continuing_numbers, otherwise_numbers}

abbrev pub stmt_kind_numbers : StmtKind → List ℕ
stmt_kind_numbers = fold-StmtKind (List ℕ) (List ℕ) (List ℕ) (List ℕ) (List ℕ) (List ℕ) (List ℕ) clause_nodes stmt_kind_nodes arm_nodes block_layer_nodes continuing_nodes otherwise_nodes stmt_layer_nodes

abbrev pub block_numbers : Block → List ℕ
block_numbers = fold-Block (List ℕ) (List ℕ) (List ℕ) (List ℕ) (List ℕ) (List ℕ) (List ℕ) clause_nodes stmt_kind_nodes arm_nodes block_layer_nodes continuing_nodes otherwise_nodes stmt_layer_nodes

abbrev pub stmt_numbers : Stmt → List ℕ
stmt_numbers = fold-Stmt (List ℕ) (List ℕ) (List ℕ) (List ℕ) (List ℕ) (List ℕ) (List ℕ) clause_nodes stmt_kind_nodes arm_nodes block_layer_nodes continuing_nodes otherwise_nodes stmt_layer_nodes

pub arm_numbered : (x : Arm) → arm_numbers x ≡ expr_nodes (out-Arm x).condition ++ block_numbers (out-Arm x).body
arm_numbered x = fold_out-Arm (List ℕ) (List ℕ) (List ℕ) (List ℕ) (List ℕ) (List ℕ) (List ℕ) clause_nodes stmt_kind_nodes arm_nodes block_layer_nodes continuing_nodes otherwise_nodes stmt_layer_nodes x

pub block_numbered : (x : Block) → block_numbers x ≡ attrs_nodes (out-Block x).attrs ++ (joined_of stmt_numbers (out-Block x).body ++ (out-Block x).node ∷ [])
block_numbered x = fold_out-Block (List ℕ) (List ℕ) (List ℕ) (List ℕ) (List ℕ) (List ℕ) (List ℕ) clause_nodes stmt_kind_nodes arm_nodes block_layer_nodes continuing_nodes otherwise_nodes stmt_layer_nodes x

pub continuing_numbered : (x : Continuing) → continuing_numbers x ≡ attrs_nodes (out-Continuing x).attrs ++ (joined_of stmt_numbers (out-Continuing x).body ++ maybe_of break_if_nodes (out-Continuing x).leave)
continuing_numbered x = fold_out-Continuing (List ℕ) (List ℕ) (List ℕ) (List ℕ) (List ℕ) (List ℕ) (List ℕ) clause_nodes stmt_kind_nodes arm_nodes block_layer_nodes continuing_nodes otherwise_nodes stmt_layer_nodes x

pub otherwise_numbered : (x : Otherwise) → otherwise_numbers x ≡ block_numbers (out-Otherwise x).body
otherwise_numbered x = fold_out-Otherwise (List ℕ) (List ℕ) (List ℕ) (List ℕ) (List ℕ) (List ℕ) (List ℕ) clause_nodes stmt_kind_nodes arm_nodes block_layer_nodes continuing_nodes otherwise_nodes stmt_layer_nodes x

pub stmt_numbered : (x : Stmt) → stmt_numbers x ≡ stmt_kind_numbers x.kind ++ x.node ∷ []
stmt_numbered x = fold_out-Stmt (List ℕ) (List ℕ) (List ℕ) (List ℕ) (List ℕ) (List ℕ) (List ℕ) clause_nodes stmt_kind_nodes arm_nodes block_layer_nodes continuing_nodes otherwise_nodes stmt_layer_nodes x

clause_layer : (k : Clause) (y : Clause-F Clause StmtKind Arm Block Continuing Otherwise Stmt) → out-Clause k ≡ y → clause_numbers k ≡ clause_nodes (map-Clause Clause StmtKind Arm Block Continuing Otherwise Stmt (List ℕ) (List ℕ) (List ℕ) (List ℕ) (List ℕ) (List ℕ) (List ℕ) clause_numbers stmt_kind_numbers arm_numbers block_numbers continuing_numbers otherwise_numbers stmt_numbers y)
clause_layer k y is = fold_out-Clause (List ℕ) (List ℕ) (List ℕ) (List ℕ) (List ℕ) (List ℕ) (List ℕ) clause_nodes stmt_kind_nodes arm_nodes block_layer_nodes continuing_nodes otherwise_nodes stmt_layer_nodes k ∙ ap (λ z. clause_nodes (map-Clause Clause StmtKind Arm Block Continuing Otherwise Stmt (List ℕ) (List ℕ) (List ℕ) (List ℕ) (List ℕ) (List ℕ) (List ℕ) clause_numbers stmt_kind_numbers arm_numbers block_numbers continuing_numbers otherwise_numbers stmt_numbers z)) is

stmt_kind_layer : (k : StmtKind) (y : StmtKind-F Clause StmtKind Arm Block Continuing Otherwise Stmt) → out-StmtKind k ≡ y → stmt_kind_numbers k ≡ stmt_kind_nodes (map-StmtKind Clause StmtKind Arm Block Continuing Otherwise Stmt (List ℕ) (List ℕ) (List ℕ) (List ℕ) (List ℕ) (List ℕ) (List ℕ) clause_numbers stmt_kind_numbers arm_numbers block_numbers continuing_numbers otherwise_numbers stmt_numbers y)
stmt_kind_layer k y is = fold_out-StmtKind (List ℕ) (List ℕ) (List ℕ) (List ℕ) (List ℕ) (List ℕ) (List ℕ) clause_nodes stmt_kind_nodes arm_nodes block_layer_nodes continuing_nodes otherwise_nodes stmt_layer_nodes k ∙ ap (λ z. stmt_kind_nodes (map-StmtKind Clause StmtKind Arm Block Continuing Otherwise Stmt (List ℕ) (List ℕ) (List ℕ) (List ℕ) (List ℕ) (List ℕ) (List ℕ) clause_numbers stmt_kind_numbers arm_numbers block_numbers continuing_numbers otherwise_numbers stmt_numbers z)) is

pub nodes-Case : (keyword : Place) (selectors : List Selector) (trailing colon : Bool) (body : Block) → clause_numbers (clause.Case keyword selectors trailing colon body) ≡ joined_of selector_nodes selectors ++ block_numbers body
nodes-Case keyword selectors trailing colon body = clause_layer _ _ (clause.outs-Case keyword selectors trailing colon body)

pub nodes-Default : (keyword : Place) (colon : Bool) (body : Block) → clause_numbers (clause.Default keyword colon body) ≡ block_numbers body
nodes-Default keyword colon body = clause_layer _ _ (clause.outs-Default keyword colon body)

pub nodes-Empty : stmt_kind_numbers kind.Empty ≡ []
nodes-Empty = stmt_kind_layer _ _ kind.outs-Empty

pub nodes-Block : (block : Block) → stmt_kind_numbers (kind.Block block) ≡ block_numbers block
nodes-Block block = stmt_kind_layer _ _ (kind.outs-Block block)

pub nodes-Simple : (s : SimpleStatement) → stmt_kind_numbers (kind.Simple s) ≡ simple_nodes s
nodes-Simple s = stmt_kind_layer _ _ (kind.outs-Simple s)

pub nodes-Return : (value : Option Expr) → stmt_kind_numbers (kind.Return value) ≡ maybe_of expr_nodes value
nodes-Return value = stmt_kind_layer _ _ (kind.outs-Return value)

pub nodes-Break : stmt_kind_numbers kind.Break ≡ []
nodes-Break = stmt_kind_layer _ _ kind.outs-Break

pub nodes-Continue : stmt_kind_numbers kind.Continue ≡ []
nodes-Continue = stmt_kind_layer _ _ kind.outs-Continue

pub nodes-Discard : stmt_kind_numbers kind.Discard ≡ []
nodes-Discard = stmt_kind_layer _ _ kind.outs-Discard

pub nodes-ConstAssert : (condition : Expr) → stmt_kind_numbers (kind.ConstAssert condition) ≡ expr_nodes condition
nodes-ConstAssert condition = stmt_kind_layer _ _ (kind.outs-ConstAssert condition)

pub nodes-If : (attrs : List Attr) (keyword : Place) (condition : Expr) (then : Block) (arms : List Arm) (last : Option Otherwise) → stmt_kind_numbers (kind.If attrs keyword condition then arms last) ≡ attrs_nodes attrs ++ (expr_nodes condition ++ (block_numbers then ++ (joined_of arm_numbers arms ++ maybe_of otherwise_numbers last)))
nodes-If attrs keyword condition then arms None = stmt_kind_layer _ _ (kind.outs-If attrs keyword condition then arms None)
nodes-If attrs keyword condition then arms (Some x) = stmt_kind_layer _ _ (kind.outs-If attrs keyword condition then arms (Some x))

pub nodes-Switch : (attrs : List Attr) (keyword : Place) (chosen : Expr) (inner : List Attr) (clauses : List Clause) (end : Place) → stmt_kind_numbers (kind.Switch attrs keyword chosen inner clauses end) ≡ attrs_nodes attrs ++ (expr_nodes chosen ++ (attrs_nodes inner ++ joined_of clause_numbers clauses))
nodes-Switch attrs keyword chosen inner clauses end = stmt_kind_layer _ _ (kind.outs-Switch attrs keyword chosen inner clauses end)

pub nodes-Loop : (attrs : List Attr) (keyword : Place) (inner : List Attr) (body : List Stmt) (part : Option Continuing) (end : Place) → stmt_kind_numbers (kind.Loop attrs keyword inner body part end) ≡ attrs_nodes attrs ++ (attrs_nodes inner ++ (joined_of stmt_numbers body ++ maybe_of continuing_numbers part))
nodes-Loop attrs keyword inner body None end = stmt_kind_layer _ _ (kind.outs-Loop attrs keyword inner body None end)
nodes-Loop attrs keyword inner body (Some x) end = stmt_kind_layer _ _ (kind.outs-Loop attrs keyword inner body (Some x) end)

pub nodes-For : (attrs : List Attr) (keyword : Place) (initial : Option SimpleStatement) (condition : Option Expr) (changed : Option Update) (body : Block) → stmt_kind_numbers (kind.For attrs keyword initial condition changed body) ≡ attrs_nodes attrs ++ (maybe_of simple_nodes initial ++ (maybe_of expr_nodes condition ++ (maybe_of update_nodes changed ++ block_numbers body)))
nodes-For attrs keyword initial condition changed body = stmt_kind_layer _ _ (kind.outs-For attrs keyword initial condition changed body)

pub nodes-While : (attrs : List Attr) (keyword : Place) (condition : Expr) (body : Block) → stmt_kind_numbers (kind.While attrs keyword condition body) ≡ attrs_nodes attrs ++ (expr_nodes condition ++ block_numbers body)
nodes-While attrs keyword condition body = stmt_kind_layer _ _ (kind.outs-While attrs keyword condition body)

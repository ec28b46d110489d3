-- The shape of each kind of statement, and how many names it needs, by its parts.
use Rattle.std.proofs.Common.{◌≡◌, ap, ◌∙◌, ℕ, max, Bool, List, map, Option, None, Some}
use Rattle.std.specs.Prelude.{option_map}
use Rattle.shade_base.specs.declared.place.Place.{Place}
use Rattle.shade_ast.specs.declared.attr.Attr.{Attr}
use Rattle.shade_ast.specs.declared.expr.Expr.{Expr}
use Rattle.shade_ast.specs.declared.stmt.Simple.{Simple as SimpleStatement}
use Rattle.shade_ast.specs.declared.stmt.Selector.{Selector}
use Rattle.shade_ast.specs.declared.stmt.Update.{Update}
use Rattle.shade_ast.specs.declared.stmt.Clause.TheVariants as clause
use Rattle.shade_ast.specs.declared.stmt.StmtKind.TheVariants as kind
use Rattle.shade_ast.specs.declared.stmt.Clause.{Clause, Clause-F, out-Clause, map-Clause, fold-Clause, fold_out-Clause}
use Rattle.shade_ast.specs.declared.stmt.StmtKind.{StmtKind, StmtKind-F, out-StmtKind, map-StmtKind, fold-StmtKind, fold_out-StmtKind}
use Rattle.shade_ast.specs.declared.stmt.Arm.{Arm, out-Arm, fold-Arm, fold_out-Arm}
use Rattle.shade_ast.specs.declared.stmt.Block.{Block, out-Block, fold-Block, fold_out-Block}
use Rattle.shade_ast.specs.declared.stmt.Continuing.{Continuing, out-Continuing, fold-Continuing, fold_out-Continuing}
use Rattle.shade_ast.specs.declared.stmt.Otherwise.{Otherwise, out-Otherwise, fold-Otherwise, fold_out-Otherwise}
use Rattle.shade_ast.specs.declared.stmt.Stmt.{Stmt, fold-Stmt, fold_out-Stmt}
use Rattle.shade_ast.specs.Shapes.{StmtShape, empty_stmt, block_stmt, simple_stmt, return_stmt, break_stmt, continue_stmt, discard_stmt, assert_stmt, if_stmt, switch_stmt, loop_stmt, for_stmt, while_stmt, BlockShape, braces, ArmShapes, else_arm, else_if_arm, ClauseShapes, case_clause, default_clause, ContinuingShape, continuing_part}
use Rattle.shade_ast.specs.Shaped.{expr_shape, attr_shapes, simple_shape, selector_shape, update_shape, break_if_shape, stmt_shapes, clause_shapes, arm_shapes, maybe_continuing, clause_step, stmt_kind_step, arm_step, block_step, continuing_step, otherwise_step, stmt_step}
use Rattle.shade_ast.specs.Needs.{most_of, maybe_of, expr_needs, attrs_need, simple_needs, selector_needs, update_needs, break_if_needs, clause_needs, stmt_kind_needs, arm_needs, block_layer_needs, continuing_needs, otherwise_needs, stmt_layer_needs}
use Rattle.shade_ast.specs.StmtParts.{clause_shaped, clause_count, arm_shaped, arm_count, continuing_shaped, continuing_count, otherwise_shaped, otherwise_count}

abbrev pub stmt_kind_shaped : List (List ℕ) → StmtKind → Place → StmtShape
stmt_kind_shaped names = fold-StmtKind (ClauseShapes → ClauseShapes) (Place → StmtShape) (ArmShapes → ArmShapes) BlockShape ContinuingShape ArmShapes StmtShape (clause_step names) (stmt_kind_step names) (arm_step names) (block_step names) (continuing_step names) otherwise_step stmt_step

abbrev pub stmt_kind_count : StmtKind → ℕ
stmt_kind_count = fold-StmtKind ℕ ℕ ℕ ℕ ℕ ℕ ℕ clause_needs stmt_kind_needs arm_needs block_layer_needs continuing_needs otherwise_needs stmt_layer_needs

abbrev pub block_shaped : List (List ℕ) → Block → BlockShape
block_shaped names = fold-Block (ClauseShapes → ClauseShapes) (Place → StmtShape) (ArmShapes → ArmShapes) BlockShape ContinuingShape ArmShapes StmtShape (clause_step names) (stmt_kind_step names) (arm_step names) (block_step names) (continuing_step names) otherwise_step stmt_step

abbrev pub block_count : Block → ℕ
block_count = fold-Block ℕ ℕ ℕ ℕ ℕ ℕ ℕ clause_needs stmt_kind_needs arm_needs block_layer_needs continuing_needs otherwise_needs stmt_layer_needs

abbrev pub stmt_shaped : List (List ℕ) → Stmt → StmtShape
stmt_shaped names = fold-Stmt (ClauseShapes → ClauseShapes) (Place → StmtShape) (ArmShapes → ArmShapes) BlockShape ContinuingShape ArmShapes StmtShape (clause_step names) (stmt_kind_step names) (arm_step names) (block_step names) (continuing_step names) otherwise_step stmt_step

abbrev pub stmt_count : Stmt → ℕ
stmt_count = fold-Stmt ℕ ℕ ℕ ℕ ℕ ℕ ℕ clause_needs stmt_kind_needs arm_needs block_layer_needs continuing_needs otherwise_needs stmt_layer_needs

module _ (names : List (List ℕ)) where
  pub arm_is : (x : Arm) → arm_shaped names x ≡ (λ others. else_if_arm (out-Arm x).else_keyword (out-Arm x).if_keyword (expr_shape names (out-Arm x).condition) (block_shaped names (out-Arm x).body) others)
  arm_is x = fold_out-Arm (ClauseShapes → ClauseShapes) (Place → StmtShape) (ArmShapes → ArmShapes) BlockShape ContinuingShape ArmShapes StmtShape (clause_step names) (stmt_kind_step names) (arm_step names) (block_step names) (continuing_step names) otherwise_step stmt_step x

  pub block_is : (x : Block) → block_shaped names x ≡ braces (out-Block x).place (attr_shapes names (out-Block x).attrs) (stmt_shapes (map (stmt_shaped names) (out-Block x).body)) (out-Block x).end
  block_is x = fold_out-Block (ClauseShapes → ClauseShapes) (Place → StmtShape) (ArmShapes → ArmShapes) BlockShape ContinuingShape ArmShapes StmtShape (clause_step names) (stmt_kind_step names) (arm_step names) (block_step names) (continuing_step names) otherwise_step stmt_step x

  pub continuing_is : (x : Continuing) → continuing_shaped names x ≡ continuing_part (out-Continuing x).keyword (attr_shapes names (out-Continuing x).attrs) (stmt_shapes (map (stmt_shaped names) (out-Continuing x).body)) (option_map (break_if_shape names) (out-Continuing x).leave) (out-Continuing x).end
  continuing_is x = fold_out-Continuing (ClauseShapes → ClauseShapes) (Place → StmtShape) (ArmShapes → ArmShapes) BlockShape ContinuingShape ArmShapes StmtShape (clause_step names) (stmt_kind_step names) (arm_step names) (block_step names) (continuing_step names) otherwise_step stmt_step x

  pub otherwise_is : (x : Otherwise) → otherwise_shaped names x ≡ else_arm (out-Otherwise x).keyword (block_shaped names (out-Otherwise x).body)
  otherwise_is x = fold_out-Otherwise (ClauseShapes → ClauseShapes) (Place → StmtShape) (ArmShapes → ArmShapes) BlockShape ContinuingShape ArmShapes StmtShape (clause_step names) (stmt_kind_step names) (arm_step names) (block_step names) (continuing_step names) otherwise_step stmt_step x

  pub stmt_is : (x : Stmt) → stmt_shaped names x ≡ stmt_kind_shaped names x.kind x.place
  stmt_is x = fold_out-Stmt (ClauseShapes → ClauseShapes) (Place → StmtShape) (ArmShapes → ArmShapes) BlockShape ContinuingShape ArmShapes StmtShape (clause_step names) (stmt_kind_step names) (arm_step names) (block_step names) (continuing_step names) otherwise_step stmt_step x

  clause_layer : (c : Clause) (y : Clause-F Clause StmtKind Arm Block Continuing Otherwise Stmt) → out-Clause c ≡ y → clause_shaped names c ≡ clause_step names (map-Clause Clause StmtKind Arm Block Continuing Otherwise Stmt (ClauseShapes → ClauseShapes) (Place → StmtShape) (ArmShapes → ArmShapes) BlockShape ContinuingShape ArmShapes StmtShape (clause_shaped names) (stmt_kind_shaped names) (arm_shaped names) (block_shaped names) (continuing_shaped names) (otherwise_shaped names) (stmt_shaped names) y)
  clause_layer c y is = fold_out-Clause (ClauseShapes → ClauseShapes) (Place → StmtShape) (ArmShapes → ArmShapes) BlockShape ContinuingShape ArmShapes StmtShape (clause_step names) (stmt_kind_step names) (arm_step names) (block_step names) (continuing_step names) otherwise_step stmt_step c ∙ ap (λ z. clause_step names (map-Clause Clause StmtKind Arm Block Continuing Otherwise Stmt (ClauseShapes → ClauseShapes) (Place → StmtShape) (ArmShapes → ArmShapes) BlockShape ContinuingShape ArmShapes StmtShape (clause_shaped names) (stmt_kind_shaped names) (arm_shaped names) (block_shaped names) (continuing_shaped names) (otherwise_shaped names) (stmt_shaped names) z)) is

  pub shape-Case : (keyword : Place) (selectors : List Selector) (trailing colon : Bool) (body : Block) → clause_shaped names (clause.Case keyword selectors trailing colon body) ≡ (λ others. case_clause keyword (map (selector_shape names) selectors) trailing colon (block_shaped names body) others)
  shape-Case keyword selectors trailing colon body = clause_layer _ _ (clause.outs-Case keyword selectors trailing colon body)

  pub shape-Default : (keyword : Place) (colon : Bool) (body : Block) → clause_shaped names (clause.Default keyword colon body) ≡ (λ others. default_clause keyword colon (block_shaped names body) others)
  shape-Default keyword colon body = clause_layer _ _ (clause.outs-Default keyword colon body)

  kind_layer : (place : Place) (k : StmtKind) (y : StmtKind-F Clause StmtKind Arm Block Continuing Otherwise Stmt) → out-StmtKind k ≡ y → stmt_kind_shaped names k place ≡ stmt_kind_step names (map-StmtKind Clause StmtKind Arm Block Continuing Otherwise Stmt (ClauseShapes → ClauseShapes) (Place → StmtShape) (ArmShapes → ArmShapes) BlockShape ContinuingShape ArmShapes StmtShape (clause_shaped names) (stmt_kind_shaped names) (arm_shaped names) (block_shaped names) (continuing_shaped names) (otherwise_shaped names) (stmt_shaped names) y) place
  kind_layer place k y is = ap (λ f. f place) (fold_out-StmtKind (ClauseShapes → ClauseShapes) (Place → StmtShape) (ArmShapes → ArmShapes) BlockShape ContinuingShape ArmShapes StmtShape (clause_step names) (stmt_kind_step names) (arm_step names) (block_step names) (continuing_step names) otherwise_step stmt_step k ∙ ap (λ z. stmt_kind_step names (map-StmtKind Clause StmtKind Arm Block Continuing Otherwise Stmt (ClauseShapes → ClauseShapes) (Place → StmtShape) (ArmShapes → ArmShapes) BlockShape ContinuingShape ArmShapes StmtShape (clause_shaped names) (stmt_kind_shaped names) (arm_shaped names) (block_shaped names) (continuing_shaped names) (otherwise_shaped names) (stmt_shaped names) z)) is)

  module _ (place : Place) where
    pub shape-Empty : stmt_kind_shaped names kind.Empty place ≡ empty_stmt place
    shape-Empty = kind_layer place _ _ kind.outs-Empty

    pub shape-Block : (block : Block) → stmt_kind_shaped names (kind.Block block) place ≡ block_stmt place (block_shaped names block)
    shape-Block block = kind_layer place _ _ (kind.outs-Block block)

    pub shape-Simple : (s : SimpleStatement) → stmt_kind_shaped names (kind.Simple s) place ≡ simple_stmt place (simple_shape names s)
    shape-Simple s = kind_layer place _ _ (kind.outs-Simple s)

    pub shape-Return : (value : Option Expr) → stmt_kind_shaped names (kind.Return value) place ≡ return_stmt place (option_map (expr_shape names) value)
    shape-Return value = kind_layer place _ _ (kind.outs-Return value)

    pub shape-Break : stmt_kind_shaped names kind.Break place ≡ break_stmt place
    shape-Break = kind_layer place _ _ kind.outs-Break

    pub shape-Continue : stmt_kind_shaped names kind.Continue place ≡ continue_stmt place
    shape-Continue = kind_layer place _ _ kind.outs-Continue

    pub shape-Discard : stmt_kind_shaped names kind.Discard place ≡ discard_stmt place
    shape-Discard = kind_layer place _ _ kind.outs-Discard

    pub shape-ConstAssert : (condition : Expr) → stmt_kind_shaped names (kind.ConstAssert condition) place ≡ assert_stmt place (expr_shape names condition)
    shape-ConstAssert condition = kind_layer place _ _ (kind.outs-ConstAssert condition)

    pub shape-If : (attrs : List Attr) (keyword : Place) (condition : Expr) (then : Block) (arms : List Arm) (last : Option Otherwise) → stmt_kind_shaped names (kind.If attrs keyword condition then arms last) place ≡ if_stmt place (attr_shapes names attrs) keyword (expr_shape names condition) (block_shaped names then) (arm_shapes (map (arm_shaped names) arms) (option_map (otherwise_shaped names) last))
    shape-If attrs keyword condition then arms None = kind_layer place _ _ (kind.outs-If attrs keyword condition then arms None)
    shape-If attrs keyword condition then arms (Some x) = kind_layer place _ _ (kind.outs-If attrs keyword condition then arms (Some x))

    pub shape-Switch : (attrs : List Attr) (keyword : Place) (chosen : Expr) (inner : List Attr) (clauses : List Clause) (end : Place) → stmt_kind_shaped names (kind.Switch attrs keyword chosen inner clauses end) place ≡ switch_stmt place (attr_shapes names attrs) keyword (expr_shape names chosen) (attr_shapes names inner) (clause_shapes (map (clause_shaped names) clauses)) end
    shape-Switch attrs keyword chosen inner clauses end = kind_layer place _ _ (kind.outs-Switch attrs keyword chosen inner clauses end)

    pub shape-Loop : (attrs : List Attr) (keyword : Place) (inner : List Attr) (body : List Stmt) (part : Option Continuing) (end : Place) → stmt_kind_shaped names (kind.Loop attrs keyword inner body part end) place ≡ loop_stmt place (attr_shapes names attrs) keyword (attr_shapes names inner) (stmt_shapes (map (stmt_shaped names) body)) (maybe_continuing (option_map (continuing_shaped names) part)) end
    shape-Loop attrs keyword inner body None end = kind_layer place _ _ (kind.outs-Loop attrs keyword inner body None end)
    shape-Loop attrs keyword inner body (Some x) end = kind_layer place _ _ (kind.outs-Loop attrs keyword inner body (Some x) end)

    pub shape-For : (attrs : List Attr) (keyword : Place) (initial : Option SimpleStatement) (condition : Option Expr) (changed : Option Update) (body : Block) → stmt_kind_shaped names (kind.For attrs keyword initial condition changed body) place ≡ for_stmt place (attr_shapes names attrs) keyword (option_map (simple_shape names) initial) (option_map (expr_shape names) condition) (option_map (update_shape names) changed) (block_shaped names body)
    shape-For attrs keyword initial condition changed body = kind_layer place _ _ (kind.outs-For attrs keyword initial condition changed body)

    pub shape-While : (attrs : List Attr) (keyword : Place) (condition : Expr) (body : Block) → stmt_kind_shaped names (kind.While attrs keyword condition body) place ≡ while_stmt place (attr_shapes names attrs) keyword (expr_shape names condition) (block_shaped names body)
    shape-While attrs keyword condition body = kind_layer place _ _ (kind.outs-While attrs keyword condition body)

pub arm_counts : (x : Arm) → arm_count x ≡ max (expr_needs (out-Arm x).condition) (block_count (out-Arm x).body)
arm_counts x = fold_out-Arm ℕ ℕ ℕ ℕ ℕ ℕ ℕ clause_needs stmt_kind_needs arm_needs block_layer_needs continuing_needs otherwise_needs stmt_layer_needs x

pub block_counts : (x : Block) → block_count x ≡ max (attrs_need (out-Block x).attrs) (most_of stmt_count (out-Block x).body)
block_counts x = fold_out-Block ℕ ℕ ℕ ℕ ℕ ℕ ℕ clause_needs stmt_kind_needs arm_needs block_layer_needs continuing_needs otherwise_needs stmt_layer_needs x

pub continuing_counts : (x : Continuing) → continuing_count x ≡ max (attrs_need (out-Continuing x).attrs) (max (most_of stmt_count (out-Continuing x).body) (maybe_of break_if_needs (out-Continuing x).leave))
continuing_counts x = fold_out-Continuing ℕ ℕ ℕ ℕ ℕ ℕ ℕ clause_needs stmt_kind_needs arm_needs block_layer_needs continuing_needs otherwise_needs stmt_layer_needs x

pub otherwise_counts : (x : Otherwise) → otherwise_count x ≡ block_count (out-Otherwise x).body
otherwise_counts x = fold_out-Otherwise ℕ ℕ ℕ ℕ ℕ ℕ ℕ clause_needs stmt_kind_needs arm_needs block_layer_needs continuing_needs otherwise_needs stmt_layer_needs x

pub stmt_counts : (x : Stmt) → stmt_count x ≡ stmt_kind_count x.kind
stmt_counts x = fold_out-Stmt ℕ ℕ ℕ ℕ ℕ ℕ ℕ clause_needs stmt_kind_needs arm_needs block_layer_needs continuing_needs otherwise_needs stmt_layer_needs x

clause_counted : (c : Clause) (y : Clause-F Clause StmtKind Arm Block Continuing Otherwise Stmt) → out-Clause c ≡ y → clause_count c ≡ clause_needs (map-Clause Clause StmtKind Arm Block Continuing Otherwise Stmt ℕ ℕ ℕ ℕ ℕ ℕ ℕ clause_count stmt_kind_count arm_count block_count continuing_count otherwise_count stmt_count y)
clause_counted c y is = fold_out-Clause ℕ ℕ ℕ ℕ ℕ ℕ ℕ clause_needs stmt_kind_needs arm_needs block_layer_needs continuing_needs otherwise_needs stmt_layer_needs c ∙ ap (λ z. clause_needs (map-Clause Clause StmtKind Arm Block Continuing Otherwise Stmt ℕ ℕ ℕ ℕ ℕ ℕ ℕ clause_count stmt_kind_count arm_count block_count continuing_count otherwise_count stmt_count z)) is

pub needs-Case : (keyword : Place) (selectors : List Selector) (trailing colon : Bool) (body : Block) → clause_count (clause.Case keyword selectors trailing colon body) ≡ max (most_of selector_needs selectors) (block_count body)
needs-Case keyword selectors trailing colon body = clause_counted _ _ (clause.outs-Case keyword selectors trailing colon body)

pub needs-Default : (keyword : Place) (colon : Bool) (body : Block) → clause_count (clause.Default keyword colon body) ≡ block_count body
needs-Default keyword colon body = clause_counted _ _ (clause.outs-Default keyword colon body)

kind_counted : (k : StmtKind) (y : StmtKind-F Clause StmtKind Arm Block Continuing Otherwise Stmt) → out-StmtKind k ≡ y → stmt_kind_count k ≡ stmt_kind_needs (map-StmtKind Clause StmtKind Arm Block Continuing Otherwise Stmt ℕ ℕ ℕ ℕ ℕ ℕ ℕ clause_count stmt_kind_count arm_count block_count continuing_count otherwise_count stmt_count y)
kind_counted k y is = fold_out-StmtKind ℕ ℕ ℕ ℕ ℕ ℕ ℕ clause_needs stmt_kind_needs arm_needs block_layer_needs continuing_needs otherwise_needs stmt_layer_needs k ∙ ap (λ z. stmt_kind_needs (map-StmtKind Clause StmtKind Arm Block Continuing Otherwise Stmt ℕ ℕ ℕ ℕ ℕ ℕ ℕ clause_count stmt_kind_count arm_count block_count continuing_count otherwise_count stmt_count z)) is

pub needs-Empty : stmt_kind_count kind.Empty ≡ 0
needs-Empty = kind_counted _ _ kind.outs-Empty

pub needs-Block : (block : Block) → stmt_kind_count (kind.Block block) ≡ block_count block
needs-Block block = kind_counted _ _ (kind.outs-Block block)

pub needs-Simple : (s : SimpleStatement) → stmt_kind_count (kind.Simple s) ≡ simple_needs s
needs-Simple s = kind_counted _ _ (kind.outs-Simple s)

pub needs-Return : (value : Option Expr) → stmt_kind_count (kind.Return value) ≡ maybe_of expr_needs value
needs-Return value = kind_counted _ _ (kind.outs-Return value)

pub needs-Break : stmt_kind_count kind.Break ≡ 0
needs-Break = kind_counted _ _ kind.outs-Break

pub needs-Continue : stmt_kind_count kind.Continue ≡ 0
needs-Continue = kind_counted _ _ kind.outs-Continue

pub needs-Discard : stmt_kind_count kind.Discard ≡ 0
needs-Discard = kind_counted _ _ kind.outs-Discard

pub needs-ConstAssert : (condition : Expr) → stmt_kind_count (kind.ConstAssert condition) ≡ expr_needs condition
needs-ConstAssert condition = kind_counted _ _ (kind.outs-ConstAssert condition)

pub needs-If : (attrs : List Attr) (keyword : Place) (condition : Expr) (then : Block) (arms : List Arm) (last : Option Otherwise) → stmt_kind_count (kind.If attrs keyword condition then arms last) ≡ max (attrs_need attrs) (max (expr_needs condition) (max (block_count then) (max (most_of arm_count arms) (maybe_of otherwise_count last))))
needs-If attrs keyword condition then arms None = kind_counted _ _ (kind.outs-If attrs keyword condition then arms None)
needs-If attrs keyword condition then arms (Some x) = kind_counted _ _ (kind.outs-If attrs keyword condition then arms (Some x))

pub needs-Switch : (attrs : List Attr) (keyword : Place) (chosen : Expr) (inner : List Attr) (clauses : List Clause) (end : Place) → stmt_kind_count (kind.Switch attrs keyword chosen inner clauses end) ≡ max (attrs_need attrs) (max (expr_needs chosen) (max (attrs_need inner) (most_of clause_count clauses)))
needs-Switch attrs keyword chosen inner clauses end = kind_counted _ _ (kind.outs-Switch attrs keyword chosen inner clauses end)

pub needs-Loop : (attrs : List Attr) (keyword : Place) (inner : List Attr) (body : List Stmt) (part : Option Continuing) (end : Place) → stmt_kind_count (kind.Loop attrs keyword inner body part end) ≡ max (attrs_need attrs) (max (attrs_need inner) (max (most_of stmt_count body) (maybe_of continuing_count part)))
needs-Loop attrs keyword inner body None end = kind_counted _ _ (kind.outs-Loop attrs keyword inner body None end)
needs-Loop attrs keyword inner body (Some x) end = kind_counted _ _ (kind.outs-Loop attrs keyword inner body (Some x) end)

pub needs-For : (attrs : List Attr) (keyword : Place) (initial : Option SimpleStatement) (condition : Option Expr) (changed : Option Update) (body : Block) → stmt_kind_count (kind.For attrs keyword initial condition changed body) ≡ max (attrs_need attrs) (max (maybe_of simple_needs initial) (max (maybe_of expr_needs condition) (max (maybe_of update_needs changed) (block_count body))))
needs-For attrs keyword initial condition changed body = kind_counted _ _ (kind.outs-For attrs keyword initial condition changed body)

pub needs-While : (attrs : List Attr) (keyword : Place) (condition : Expr) (body : Block) → stmt_kind_count (kind.While attrs keyword condition body) ≡ max (attrs_need attrs) (max (expr_needs condition) (block_count body))
needs-While attrs keyword condition body = kind_counted _ _ (kind.outs-While attrs keyword condition body)

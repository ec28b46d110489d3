-- Where each word of a tree's shape is among the first of its names, the tree needs no others.
use Rattle.std.proofs.Common.{sym, subst, ℕ, ◌+◌, ◌≤◌, max, List, [], ◌∷◌, length, map, arith, Option, None, Some}
use Rattle.std.specs.Prelude.{slice_index_or, option_map}
use Rattle.shade_base.specs.declared.place.Place.{Place}
use Rattle.shade_ast.specs.declared.expr.Named.{Named}
use Rattle.shade_ast.specs.declared.expr.Expr.{Expr, Expr-F, map-Expr, fold-roll-Expr, ind-Expr}
use Rattle.shade_ast.specs.declared.expr.ExprKind.{ExprKind, ExprKind-F, map-ExprKind, fold-roll-ExprKind}
use Rattle.shade_ast.specs.declared.expr.ExprKind.TheOpen as kind
use Rattle.shade_ast.specs.declared.attr.Attr.{Attr}
use Rattle.shade_ast.specs.declared.attr.AttrName.{AttrName}
use Rattle.shade_ast.specs.declared.attr.AttrName.TheVariants as attr
use Rattle.shade_ast.specs.declared.attr.Arguments.{Arguments}
use Rattle.shade_ast.specs.declared.stmt.Var.{Var}
use Rattle.shade_ast.specs.declared.stmt.VarSpace.{VarSpace}
use Rattle.shade_ast.specs.declared.stmt.Binding.{Binding}
use Rattle.shade_ast.specs.declared.stmt.Update.{Update}
use Rattle.shade_ast.specs.declared.stmt.Update.TheVariants as update
use Rattle.shade_ast.specs.declared.stmt.Simple.{Simple}
use Rattle.shade_ast.specs.declared.stmt.Simple.TheVariants as simple
use Rattle.shade_ast.specs.declared.stmt.Selector.{Selector}
use Rattle.shade_ast.specs.declared.stmt.Selector.TheVariants as selector
use Rattle.shade_ast.specs.declared.stmt.BreakIf.{BreakIf}
use Rattle.shade_ast.specs.declared.stmt.Clause.TheOpen as open_stmt
use Rattle.shade_ast.specs.declared.stmt.Clause.{Clause, Clause-F, map-Clause, fold-roll-Clause}
use Rattle.shade_ast.specs.declared.stmt.StmtKind.{StmtKind, StmtKind-F, map-StmtKind, fold-roll-StmtKind}
use Rattle.shade_ast.specs.declared.stmt.Arm.{Arm, Arm-F, map-Arm, fold-roll-Arm}
use Rattle.shade_ast.specs.declared.stmt.Block.{Block, Block-F, map-Block, fold-roll-Block, ind-Block}
use Rattle.shade_ast.specs.declared.stmt.Continuing.{Continuing, Continuing-F, map-Continuing, fold-roll-Continuing}
use Rattle.shade_ast.specs.declared.stmt.Otherwise.{Otherwise, Otherwise-F, map-Otherwise, fold-roll-Otherwise}
use Rattle.shade_ast.specs.declared.stmt.Stmt.{Stmt, Stmt-F, map-Stmt, fold-roll-Stmt}
use Rattle.shade_ast.specs.declared.tree.Decl.{Decl}
use Rattle.shade_ast.specs.declared.tree.DeclKind.{DeclKind}
use Rattle.shade_ast.specs.declared.tree.DeclKind.TheVariants as decl
use Rattle.shade_ast.specs.declared.tree.Directive.{Directive}
use Rattle.shade_ast.specs.declared.tree.DirectiveKind.{DirectiveKind}
use Rattle.shade_ast.specs.declared.tree.DirectiveKind.TheVariants as directive
use Rattle.shade_ast.specs.declared.tree.FnResult.{FnResult}
use Rattle.shade_ast.specs.declared.tree.Member.{Member}
use Rattle.shade_ast.specs.declared.tree.Rule.{Rule}
use Rattle.shade_ast.specs.declared.tree.Rule.TheVariants as rule
use Rattle.shade_ast.specs.Shaped.{name_shape, expr_shapes, kind_step, expr_step, expr_shape, attr_name_shape, arguments_shape, attr_shape, attr_shapes, var_space_shape, var_shape, binding_shape, update_shape, simple_shape, selector_shape, break_if_shape, stmt_shapes, clause_shapes, arm_shapes, clause_step, stmt_kind_step, arm_step, block_step, continuing_step, otherwise_step, stmt_step, member_shape, result_shape, decl_kind_shape, decl_shape, rule_shape, directive_kind_shape, directive_shape}
use Rattle.shade_ast.specs.Needs.{most_of, maybe_of, named_needs, kind_needs, expr_layer_needs, expr_needs, attr_name_needs, arguments_need, attr_needs, attrs_need, var_space_needs, var_needs, binding_needs, update_needs, simple_needs, selector_needs, break_if_needs, clause_needs, stmt_kind_needs, arm_needs, block_layer_needs, continuing_needs, otherwise_needs, stmt_layer_needs, member_needs, result_needs, decl_kind_needs, decl_needs, rule_needs, directive_kind_needs, directive_needs}
use Rattle.shade_ast.proofs.ExprLayers.{kind_shape, kind_count}
use Rattle.shade_ast.specs.StmtParts.{clause_shaped, clause_count, arm_shaped, arm_count, continuing_shaped, continuing_count, otherwise_shaped, otherwise_count}
use Rattle.shade_ast.proofs.StmtLayers.{stmt_kind_shaped, stmt_kind_count, block_shaped, block_count, stmt_shaped, stmt_count}
use Rattle.shade_ast.specs.Shapes.{ExprShape, StmtShape, BlockShape, ArmShapes, ClauseShapes, ContinuingShape}
use Rattle.shade_parse.proofs.Worded.{OfMaybe, OfList, OfName, OfExpr, OfExprs, OfAttrName, OfArguments, OfAttr, OfAttrs, OfVarSpace, OfVar, OfBinding, OfUpdate, OfSimple, OfSelector, OfBreakIf, OfStmt, OfStmts, OfBlock, OfArms, OfClauses, OfContinuing, OfMember, OfResult, OfDecl, OfRule, OfDirective, OfTree}

module _ (P : List ℕ → Type 0) (names : List (List ℕ)) (k : ℕ) (one : (n : ℕ) → n + 1 ≤ length names → P (slice_index_or names n []) → n + 1 ≤ k) where
  -- what knows its names, and has words that fit, needs few names
  abbrev Kept : {A B : Type 0} → (A → ℕ) → (A → B) → (B → Type 0) → A → Type 0
  Kept needs shape F a = needs a ≤ length names → F (shape a) → needs a ≤ k

  both : (a b : ℕ) → a ≤ k → b ≤ k → max a b ≤ k
  both a b p q = omega arith

  none : 0 ≤ k
  none = omega arith

  named_kept : (n : Named) → Kept named_needs (name_shape names) (OfName P) n
  named_kept n h f = one n.name h f

  abbrev KeptKind : ExprKind → Type 0
  KeptKind x = kind_count x ≤ length names → (place : Place) → OfExpr P (kind_shape names x place) → kind_count x ≤ k

  abbrev KeptExpr : Expr → Type 0
  KeptExpr = Kept expr_needs (expr_shape names) (OfExpr P)

  abbrev KeptKindLayer : ExprKind-F ExprKind Expr → Type 0
  KeptKindLayer z = kind_needs (map-ExprKind ExprKind Expr ℕ ℕ kind_count expr_needs z) ≤ length names → (place : Place) → OfExpr P (kind_step names (map-ExprKind ExprKind Expr (Place → ExprShape) ExprShape (kind_shape names) (expr_shape names) z) place) → kind_needs (map-ExprKind ExprKind Expr ℕ ℕ kind_count expr_needs z) ≤ k

  abbrev KeptExprLayer : Expr-F ExprKind Expr → Type 0
  KeptExprLayer z = expr_layer_needs (map-Expr ExprKind Expr ℕ ℕ kind_count expr_needs z) ≤ length names → OfExpr P (expr_step (map-Expr ExprKind Expr (Place → ExprShape) ExprShape (kind_shape names) (expr_shape names) z)) → expr_layer_needs (map-Expr ExprKind Expr ℕ ℕ kind_count expr_needs z) ≤ k

  abbrev GoodKind : Type 0
  GoodKind = (x : ExprKind) × KeptKind x

  abbrev GoodExpr : Type 0
  GoodExpr = (x : Expr) × KeptExpr x

  exprs_kept : (l : List GoodExpr) → most_of expr_needs (map (λ x. x.0) l) ≤ length names → OfExprs P (expr_shapes (map (expr_shape names) (map (λ x. x.0) l))) → most_of expr_needs (map (λ x. x.0) l) ≤ k
  exprs_kept [] h f = none
  exprs_kept (e ∷ l) h f = both _ _ (e.1 (omega arith) f.0) (exprs_kept l (omega arith) f.1)

  kind_case : (y : ExprKind-F GoodKind GoodExpr) → KeptKindLayer (map-ExprKind GoodKind GoodExpr ExprKind Expr (λ x. x.0) (λ x. x.0) y)
  kind_case (kind.Infix left operator at right) h place f = both _ _ (left.1 (omega arith) f.0) (right.1 (omega arith) f.1)
  kind_case (kind.Prefix operator operand) h place f = operand.1 h f
  kind_case (kind.Member whole dot name) h place f = both _ _ (whole.1 (omega arith) f.0) (named_kept name (omega arith) f.1)
  kind_case (kind.Index whole bracket at) h place f = both _ _ (whole.1 (omega arith) f.0) (at.1 (omega arith) f.1)
  kind_case (kind.Call callee arguments trailing) h place f = both _ _ (callee.1 (omega arith) f.0) (exprs_kept arguments (omega arith) f.1)
  kind_case (kind.Template name arguments trailing) h place f = both _ _ (one name (omega arith) f.0) (exprs_kept arguments (omega arith) f.1)
  kind_case (kind.Name name) h place f = one name h f
  kind_case (kind.Number value suffix) h place f = none
  kind_case kind.True h place f = none
  kind_case kind.False h place f = none
  kind_case (kind.Paren inner) h place f = inner.1 h f

  expr_case : (y : Expr-F GoodKind GoodExpr) → KeptExprLayer (map-Expr GoodKind GoodExpr ExprKind Expr (λ x. x.0) (λ x. x.0) y)
  expr_case y h f = y.kind.1 h y.place f

  expr_kept : (e : Expr) → KeptExpr e
  expr_kept =
      ind-Expr KeptKind KeptExpr
      (λ x y is h place f.
      subst (λ n. n ≤ k) (sym (fold-roll-ExprKind ℕ ℕ kind_needs expr_layer_needs x))
      (subst KeptKindLayer is (kind_case y) (subst (λ n. n ≤ length names) (fold-roll-ExprKind ℕ ℕ kind_needs expr_layer_needs x) h) place
      (subst (λ (s : Place → ExprShape). OfExpr P (s place)) (fold-roll-ExprKind (Place → ExprShape) ExprShape (kind_step names) expr_step x) f)))
      (λ x y is h f.
      subst (λ n. n ≤ k) (sym (fold-roll-Expr ℕ ℕ kind_needs expr_layer_needs x))
      (subst KeptExprLayer is (expr_case y) (subst (λ n. n ≤ length names) (fold-roll-Expr ℕ ℕ kind_needs expr_layer_needs x) h)
      (subst (OfExpr P) (fold-roll-Expr (Place → ExprShape) ExprShape (kind_step names) expr_step x) f)))

  all_kept : {A B : Type 0} (needs : A → ℕ) (shape : A → B) (F : B → Type 0) → ((a : A) → Kept needs shape F a) → (l : List A) → Kept (most_of needs) (map shape) (OfList F) l
  all_kept needs shape F kept [] h f = none
  all_kept needs shape F kept (a ∷ l) h f = both _ _ (kept a (omega arith) f.0) (all_kept needs shape F kept l (omega arith) f.1)

  maybe_kept : {A B : Type 0} (needs : A → ℕ) (shape : A → B) (F : B → Type 0) → ((a : A) → Kept needs shape F a) → (o : Option A) → Kept (maybe_of needs) (option_map shape) (OfMaybe F) o
  maybe_kept needs shape F kept None h f = none
  maybe_kept needs shape F kept (Some a) h f = kept a h f

  items_kept : (l : List Expr) → most_of expr_needs l ≤ length names → OfExprs P (expr_shapes (map (expr_shape names) l)) → most_of expr_needs l ≤ k
  items_kept [] h f = none
  items_kept (e ∷ l) h f = both _ _ (expr_kept e (omega arith) f.0) (items_kept l (omega arith) f.1)

  attr_name_kept : (n : AttrName) → Kept attr_name_needs (attr_name_shape names) (OfAttrName P) n
  attr_name_kept (attr.Name n) h f = named_kept n h f
  attr_name_kept (attr.Diagnostic place) h f = none
  attr_name_kept (attr.Const place) h f = none

  arguments_kept : (a : Arguments) → Kept arguments_need (arguments_shape names) (OfArguments P) a
  arguments_kept a h f = items_kept a.items h f

  attr_kept : (a : Attr) → Kept attr_needs (attr_shape names) (OfAttr P) a
  attr_kept a h f = both _ _ (attr_name_kept a.name (omega arith) f.0) (maybe_kept arguments_need (arguments_shape names) (OfArguments P) arguments_kept a.arguments (omega arith) f.1)

  attrs_kept : (l : List Attr) → Kept attrs_need (attr_shapes names) (OfAttrs P) l
  attrs_kept l h f = all_kept attr_needs (attr_shape names) (OfAttr P) attr_kept l h f

  maybe_expr_kept : (o : Option Expr) → Kept (maybe_of expr_needs) (option_map (expr_shape names)) (OfMaybe (OfExpr P)) o
  maybe_expr_kept o h f = maybe_kept expr_needs (expr_shape names) (OfExpr P) expr_kept o h f

  var_space_kept : (s : VarSpace) → Kept var_space_needs (var_space_shape names) (OfVarSpace P) s
  var_space_kept s h f = both _ _ (named_kept s.space (omega arith) f.0) (maybe_kept named_needs (name_shape names) (OfName P) named_kept s.access (omega arith) f.1)

  var_kept : (v : Var) → Kept var_needs (var_shape names) (OfVar P) v
  var_kept v h f =
      both _ _ (maybe_kept var_space_needs (var_space_shape names) (OfVarSpace P) var_space_kept v.space (omega arith) f.0)
      (both _ _ (named_kept v.name (omega arith) f.1.0) (both _ _ (maybe_expr_kept v.ty (omega arith) f.1.1.0) (maybe_expr_kept v.value (omega arith) f.1.1.1)))

  binding_kept : (b : Binding) → Kept binding_needs (binding_shape names) (OfBinding P) b
  binding_kept b h f = both _ _ (named_kept b.name (omega arith) f.0) (both _ _ (maybe_expr_kept b.ty (omega arith) f.1.0) (expr_kept b.value (omega arith) f.1.1))

  update_kept : (u : Update) → Kept update_needs (update_shape names) (OfUpdate P) u
  update_kept (update.Assign target at value) h f = both _ _ (expr_kept target (omega arith) f.0) (expr_kept value (omega arith) f.1)
  update_kept (update.Compound target operator at value) h f = both _ _ (expr_kept target (omega arith) f.0) (expr_kept value (omega arith) f.1)
  update_kept (update.Phony underscore at value) h f = expr_kept value h f
  update_kept (update.Increment target at) h f = expr_kept target h f
  update_kept (update.Decrement target at) h f = expr_kept target h f
  update_kept (update.Call e) h f = expr_kept e h f

  simple_kept : (s : Simple) → Kept simple_needs (simple_shape names) (OfSimple P) s
  simple_kept (simple.Var v) h f = var_kept v h f
  simple_kept (simple.Const b) h f = binding_kept b h f
  simple_kept (simple.Let b) h f = binding_kept b h f
  simple_kept (simple.Update u) h f = update_kept u h f

  selector_kept : (s : Selector) → Kept selector_needs (selector_shape names) (OfSelector P) s
  selector_kept (selector.Default place) h f = none
  selector_kept (selector.Value e) h f = expr_kept e h f

  break_if_kept : (b : BreakIf) → Kept break_if_needs (break_if_shape names) (OfBreakIf P) b
  break_if_kept b h f = expr_kept b.condition h f

  abbrev KeptClause : Clause → Type 0
  KeptClause x = clause_count x ≤ length names → (others : ClauseShapes) → OfClauses P (clause_shaped names x others) → (clause_count x ≤ k) × OfClauses P others

  abbrev KeptStmtKind : StmtKind → Type 0
  KeptStmtKind x = stmt_kind_count x ≤ length names → (place : Place) → OfStmt P (stmt_kind_shaped names x place) → stmt_kind_count x ≤ k

  abbrev KeptArm : Arm → Type 0
  KeptArm x = arm_count x ≤ length names → (others : ArmShapes) → OfArms P (arm_shaped names x others) → (arm_count x ≤ k) × OfArms P others

  abbrev KeptBlock : Block → Type 0
  KeptBlock x = block_count x ≤ length names → OfBlock P (block_shaped names x) → block_count x ≤ k

  abbrev KeptContinuing : Continuing → Type 0
  KeptContinuing x = continuing_count x ≤ length names → OfContinuing P (continuing_shaped names x) → continuing_count x ≤ k

  abbrev KeptOtherwise : Otherwise → Type 0
  KeptOtherwise x = otherwise_count x ≤ length names → OfArms P (otherwise_shaped names x) → otherwise_count x ≤ k

  abbrev KeptStmt : Stmt → Type 0
  KeptStmt x = stmt_count x ≤ length names → OfStmt P (stmt_shaped names x) → stmt_count x ≤ k

  abbrev clause_counted : Clause-F Clause StmtKind Arm Block Continuing Otherwise Stmt → ℕ
  clause_counted z = clause_needs (map-Clause Clause StmtKind Arm Block Continuing Otherwise Stmt ℕ ℕ ℕ ℕ ℕ ℕ ℕ clause_count stmt_kind_count arm_count block_count continuing_count otherwise_count stmt_count z)

  abbrev clause_layered : Clause-F Clause StmtKind Arm Block Continuing Otherwise Stmt → ClauseShapes → ClauseShapes
  clause_layered z = clause_step names (map-Clause Clause StmtKind Arm Block Continuing Otherwise Stmt (ClauseShapes → ClauseShapes) (Place → StmtShape) (ArmShapes → ArmShapes) BlockShape ContinuingShape ArmShapes StmtShape (clause_shaped names) (stmt_kind_shaped names) (arm_shaped names) (block_shaped names) (continuing_shaped names) (otherwise_shaped names) (stmt_shaped names) z)

  abbrev KeptClauseLayer : Clause-F Clause StmtKind Arm Block Continuing Otherwise Stmt → Type 0
  KeptClauseLayer z = clause_counted z ≤ length names → (others : ClauseShapes) → OfClauses P (clause_layered z others) → (clause_counted z ≤ k) × OfClauses P others

  abbrev stmt_kind_counted : StmtKind-F Clause StmtKind Arm Block Continuing Otherwise Stmt → ℕ
  stmt_kind_counted z = stmt_kind_needs (map-StmtKind Clause StmtKind Arm Block Continuing Otherwise Stmt ℕ ℕ ℕ ℕ ℕ ℕ ℕ clause_count stmt_kind_count arm_count block_count continuing_count otherwise_count stmt_count z)

  abbrev stmt_kind_layered : StmtKind-F Clause StmtKind Arm Block Continuing Otherwise Stmt → Place → StmtShape
  stmt_kind_layered z = stmt_kind_step names (map-StmtKind Clause StmtKind Arm Block Continuing Otherwise Stmt (ClauseShapes → ClauseShapes) (Place → StmtShape) (ArmShapes → ArmShapes) BlockShape ContinuingShape ArmShapes StmtShape (clause_shaped names) (stmt_kind_shaped names) (arm_shaped names) (block_shaped names) (continuing_shaped names) (otherwise_shaped names) (stmt_shaped names) z)

  abbrev KeptStmtKindLayer : StmtKind-F Clause StmtKind Arm Block Continuing Otherwise Stmt → Type 0
  KeptStmtKindLayer z = stmt_kind_counted z ≤ length names → (place : Place) → OfStmt P (stmt_kind_layered z place) → stmt_kind_counted z ≤ k

  abbrev arm_counted : Arm-F Clause StmtKind Arm Block Continuing Otherwise Stmt → ℕ
  arm_counted z = arm_needs (map-Arm Clause StmtKind Arm Block Continuing Otherwise Stmt ℕ ℕ ℕ ℕ ℕ ℕ ℕ clause_count stmt_kind_count arm_count block_count continuing_count otherwise_count stmt_count z)

  abbrev arm_layered : Arm-F Clause StmtKind Arm Block Continuing Otherwise Stmt → ArmShapes → ArmShapes
  arm_layered z = arm_step names (map-Arm Clause StmtKind Arm Block Continuing Otherwise Stmt (ClauseShapes → ClauseShapes) (Place → StmtShape) (ArmShapes → ArmShapes) BlockShape ContinuingShape ArmShapes StmtShape (clause_shaped names) (stmt_kind_shaped names) (arm_shaped names) (block_shaped names) (continuing_shaped names) (otherwise_shaped names) (stmt_shaped names) z)

  abbrev KeptArmLayer : Arm-F Clause StmtKind Arm Block Continuing Otherwise Stmt → Type 0
  KeptArmLayer z = arm_counted z ≤ length names → (others : ArmShapes) → OfArms P (arm_layered z others) → (arm_counted z ≤ k) × OfArms P others

  abbrev block_counted : Block-F Clause StmtKind Arm Block Continuing Otherwise Stmt → ℕ
  block_counted z = block_layer_needs (map-Block Clause StmtKind Arm Block Continuing Otherwise Stmt ℕ ℕ ℕ ℕ ℕ ℕ ℕ clause_count stmt_kind_count arm_count block_count continuing_count otherwise_count stmt_count z)

  abbrev block_layered : Block-F Clause StmtKind Arm Block Continuing Otherwise Stmt → BlockShape
  block_layered z = block_step names (map-Block Clause StmtKind Arm Block Continuing Otherwise Stmt (ClauseShapes → ClauseShapes) (Place → StmtShape) (ArmShapes → ArmShapes) BlockShape ContinuingShape ArmShapes StmtShape (clause_shaped names) (stmt_kind_shaped names) (arm_shaped names) (block_shaped names) (continuing_shaped names) (otherwise_shaped names) (stmt_shaped names) z)

  abbrev KeptBlockLayer : Block-F Clause StmtKind Arm Block Continuing Otherwise Stmt → Type 0
  KeptBlockLayer z = block_counted z ≤ length names → OfBlock P (block_layered z) → block_counted z ≤ k

  abbrev continuing_counted : Continuing-F Clause StmtKind Arm Block Continuing Otherwise Stmt → ℕ
  continuing_counted z = continuing_needs (map-Continuing Clause StmtKind Arm Block Continuing Otherwise Stmt ℕ ℕ ℕ ℕ ℕ ℕ ℕ clause_count stmt_kind_count arm_count block_count continuing_count otherwise_count stmt_count z)

  abbrev continuing_layered : Continuing-F Clause StmtKind Arm Block Continuing Otherwise Stmt → ContinuingShape
  continuing_layered z = continuing_step names (map-Continuing Clause StmtKind Arm Block Continuing Otherwise Stmt (ClauseShapes → ClauseShapes) (Place → StmtShape) (ArmShapes → ArmShapes) BlockShape ContinuingShape ArmShapes StmtShape (clause_shaped names) (stmt_kind_shaped names) (arm_shaped names) (block_shaped names) (continuing_shaped names) (otherwise_shaped names) (stmt_shaped names) z)

  abbrev KeptContinuingLayer : Continuing-F Clause StmtKind Arm Block Continuing Otherwise Stmt → Type 0
  KeptContinuingLayer z = continuing_counted z ≤ length names → OfContinuing P (continuing_layered z) → continuing_counted z ≤ k

  abbrev otherwise_counted : Otherwise-F Clause StmtKind Arm Block Continuing Otherwise Stmt → ℕ
  otherwise_counted z = otherwise_needs (map-Otherwise Clause StmtKind Arm Block Continuing Otherwise Stmt ℕ ℕ ℕ ℕ ℕ ℕ ℕ clause_count stmt_kind_count arm_count block_count continuing_count otherwise_count stmt_count z)

  abbrev otherwise_layered : Otherwise-F Clause StmtKind Arm Block Continuing Otherwise Stmt → ArmShapes
  otherwise_layered z = otherwise_step (map-Otherwise Clause StmtKind Arm Block Continuing Otherwise Stmt (ClauseShapes → ClauseShapes) (Place → StmtShape) (ArmShapes → ArmShapes) BlockShape ContinuingShape ArmShapes StmtShape (clause_shaped names) (stmt_kind_shaped names) (arm_shaped names) (block_shaped names) (continuing_shaped names) (otherwise_shaped names) (stmt_shaped names) z)

  abbrev KeptOtherwiseLayer : Otherwise-F Clause StmtKind Arm Block Continuing Otherwise Stmt → Type 0
  KeptOtherwiseLayer z = otherwise_counted z ≤ length names → OfArms P (otherwise_layered z) → otherwise_counted z ≤ k

  abbrev stmt_counted : Stmt-F Clause StmtKind Arm Block Continuing Otherwise Stmt → ℕ
  stmt_counted z = stmt_layer_needs (map-Stmt Clause StmtKind Arm Block Continuing Otherwise Stmt ℕ ℕ ℕ ℕ ℕ ℕ ℕ clause_count stmt_kind_count arm_count block_count continuing_count otherwise_count stmt_count z)

  abbrev stmt_layered : Stmt-F Clause StmtKind Arm Block Continuing Otherwise Stmt → StmtShape
  stmt_layered z = stmt_step (map-Stmt Clause StmtKind Arm Block Continuing Otherwise Stmt (ClauseShapes → ClauseShapes) (Place → StmtShape) (ArmShapes → ArmShapes) BlockShape ContinuingShape ArmShapes StmtShape (clause_shaped names) (stmt_kind_shaped names) (arm_shaped names) (block_shaped names) (continuing_shaped names) (otherwise_shaped names) (stmt_shaped names) z)

  abbrev KeptStmtLayer : Stmt-F Clause StmtKind Arm Block Continuing Otherwise Stmt → Type 0
  KeptStmtLayer z = stmt_counted z ≤ length names → OfStmt P (stmt_layered z) → stmt_counted z ≤ k

  abbrev GoodClause : Type 0
  GoodClause = (x : Clause) × KeptClause x

  abbrev GoodStmtKind : Type 0
  GoodStmtKind = (x : StmtKind) × KeptStmtKind x

  abbrev GoodArm : Type 0
  GoodArm = (x : Arm) × KeptArm x

  abbrev GoodBlock : Type 0
  GoodBlock = (x : Block) × KeptBlock x

  abbrev GoodContinuing : Type 0
  GoodContinuing = (x : Continuing) × KeptContinuing x

  abbrev GoodOtherwise : Type 0
  GoodOtherwise = (x : Otherwise) × KeptOtherwise x

  abbrev GoodStmt : Type 0
  GoodStmt = (x : Stmt) × KeptStmt x

  clauses_kept : (l : List GoodClause) → most_of clause_count (map (λ x. x.0) l) ≤ length names → OfClauses P (clause_shapes (map (clause_shaped names) (map (λ x. x.0) l))) → most_of clause_count (map (λ x. x.0) l) ≤ k
  clauses_kept [] h f = none
  clauses_kept (c ∷ l) h f = let x = c.1 (omega arith) _ f in both _ _ x.0 (clauses_kept l (omega arith) x.1)

  arms_kept : (l : List GoodArm) (o : Option ArmShapes) → most_of arm_count (map (λ x. x.0) l) ≤ length names → OfArms P (arm_shapes (map (arm_shaped names) (map (λ x. x.0) l)) o) → (most_of arm_count (map (λ x. x.0) l) ≤ k) × OfArms P (arm_shapes [] o)
  arms_kept [] o h f = (none, f)
  arms_kept (a ∷ l) o h f = let x = a.1 (omega arith) _ f in let y = arms_kept l o (omega arith) x.1 in (both _ _ x.0 y.0, y.1)

  stmts_kept : (l : List GoodStmt) → most_of stmt_count (map (λ x. x.0) l) ≤ length names → OfStmts P (stmt_shapes (map (stmt_shaped names) (map (λ x. x.0) l))) → most_of stmt_count (map (λ x. x.0) l) ≤ k
  stmts_kept [] h f = none
  stmts_kept (s ∷ l) h f = both _ _ (s.1 (omega arith) f.0) (stmts_kept l (omega arith) f.1)

  clause_case : (y : Clause-F GoodClause GoodStmtKind GoodArm GoodBlock GoodContinuing GoodOtherwise GoodStmt) → KeptClauseLayer (map-Clause GoodClause GoodStmtKind GoodArm GoodBlock GoodContinuing GoodOtherwise GoodStmt Clause StmtKind Arm Block Continuing Otherwise Stmt (λ x. x.0) (λ x. x.0) (λ x. x.0) (λ x. x.0) (λ x. x.0) (λ x. x.0) (λ x. x.0) y)
  clause_case (open_stmt.Case keyword selectors trailing colon body) h others f = (both _ _ (all_kept selector_needs (selector_shape names) (OfSelector P) selector_kept selectors (omega arith) f.0) (body.1 (omega arith) f.1.0), f.1.1)
  clause_case (open_stmt.Default keyword colon body) h others f = (body.1 h f.0, f.1)

  stmt_kind_case : (y : StmtKind-F GoodClause GoodStmtKind GoodArm GoodBlock GoodContinuing GoodOtherwise GoodStmt) → KeptStmtKindLayer (map-StmtKind GoodClause GoodStmtKind GoodArm GoodBlock GoodContinuing GoodOtherwise GoodStmt Clause StmtKind Arm Block Continuing Otherwise Stmt (λ x. x.0) (λ x. x.0) (λ x. x.0) (λ x. x.0) (λ x. x.0) (λ x. x.0) (λ x. x.0) y)
  stmt_kind_case open_stmt.Empty h place f = none
  stmt_kind_case (open_stmt.Block block) h place f = block.1 h f
  stmt_kind_case (open_stmt.Simple s) h place f = simple_kept s h f
  stmt_kind_case (open_stmt.Return value) h place f = maybe_expr_kept value h f
  stmt_kind_case open_stmt.Break h place f = none
  stmt_kind_case open_stmt.Continue h place f = none
  stmt_kind_case open_stmt.Discard h place f = none
  stmt_kind_case (open_stmt.ConstAssert condition) h place f = expr_kept condition h f
  stmt_kind_case (open_stmt.If attrs keyword condition then arms None) h place f =
      let x = arms_kept arms None (omega arith) f.1.1.1 in
      both _ _ (attrs_kept attrs (omega arith) f.0) (both _ _ (expr_kept condition (omega arith) f.1.0) (both _ _ (then.1 (omega arith) f.1.1.0) (both _ _ x.0 none)))
  stmt_kind_case (open_stmt.If attrs keyword condition then arms (Some otherwise)) h place f =
      let x = arms_kept arms (Some (otherwise_shaped names otherwise.0)) (omega arith) f.1.1.1 in
      both _ _ (attrs_kept attrs (omega arith) f.0) (both _ _ (expr_kept condition (omega arith) f.1.0) (both _ _ (then.1 (omega arith) f.1.1.0) (both _ _ x.0 (otherwise.1 (omega arith) x.1))))
  stmt_kind_case (open_stmt.Switch attrs keyword chosen inner clauses end) h place f = both _ _ (attrs_kept attrs (omega arith) f.0) (both _ _ (expr_kept chosen (omega arith) f.1.0) (both _ _ (attrs_kept inner (omega arith) f.1.1.0) (clauses_kept clauses (omega arith) f.1.1.1)))
  stmt_kind_case (open_stmt.Loop attrs keyword inner body None end) h place f = both _ _ (attrs_kept attrs (omega arith) f.0) (both _ _ (attrs_kept inner (omega arith) f.1.0) (both _ _ (stmts_kept body (omega arith) f.1.1.0) none))
  stmt_kind_case (open_stmt.Loop attrs keyword inner body (Some continuing) end) h place f = both _ _ (attrs_kept attrs (omega arith) f.0) (both _ _ (attrs_kept inner (omega arith) f.1.0) (both _ _ (stmts_kept body (omega arith) f.1.1.0) (continuing.1 (omega arith) f.1.1.1)))
  stmt_kind_case (open_stmt.For attrs keyword initial condition changed body) h place f =
      both _ _ (attrs_kept attrs (omega arith) f.0) (both _ _ (maybe_kept simple_needs (simple_shape names) (OfSimple P) simple_kept initial (omega arith) f.1.0) (both _ _ (maybe_expr_kept condition (omega arith) f.1.1.0)
      (both _ _ (maybe_kept update_needs (update_shape names) (OfUpdate P) update_kept changed (omega arith) f.1.1.1.0) (body.1 (omega arith) f.1.1.1.1))))
  stmt_kind_case (open_stmt.While attrs keyword condition body) h place f = both _ _ (attrs_kept attrs (omega arith) f.0) (both _ _ (expr_kept condition (omega arith) f.1.0) (body.1 (omega arith) f.1.1))

  arm_case : (y : Arm-F GoodClause GoodStmtKind GoodArm GoodBlock GoodContinuing GoodOtherwise GoodStmt) → KeptArmLayer (map-Arm GoodClause GoodStmtKind GoodArm GoodBlock GoodContinuing GoodOtherwise GoodStmt Clause StmtKind Arm Block Continuing Otherwise Stmt (λ x. x.0) (λ x. x.0) (λ x. x.0) (λ x. x.0) (λ x. x.0) (λ x. x.0) (λ x. x.0) y)
  arm_case y h others f = (both _ _ (expr_kept y.condition (omega arith) f.0) (y.body.1 (omega arith) f.1.0), f.1.1)

  block_case : (y : Block-F GoodClause GoodStmtKind GoodArm GoodBlock GoodContinuing GoodOtherwise GoodStmt) → KeptBlockLayer (map-Block GoodClause GoodStmtKind GoodArm GoodBlock GoodContinuing GoodOtherwise GoodStmt Clause StmtKind Arm Block Continuing Otherwise Stmt (λ x. x.0) (λ x. x.0) (λ x. x.0) (λ x. x.0) (λ x. x.0) (λ x. x.0) (λ x. x.0) y)
  block_case y h f = both _ _ (attrs_kept y.attrs (omega arith) f.0) (stmts_kept y.body (omega arith) f.1)

  continuing_case : (y : Continuing-F GoodClause GoodStmtKind GoodArm GoodBlock GoodContinuing GoodOtherwise GoodStmt) → KeptContinuingLayer (map-Continuing GoodClause GoodStmtKind GoodArm GoodBlock GoodContinuing GoodOtherwise GoodStmt Clause StmtKind Arm Block Continuing Otherwise Stmt (λ x. x.0) (λ x. x.0) (λ x. x.0) (λ x. x.0) (λ x. x.0) (λ x. x.0) (λ x. x.0) y)
  continuing_case y h f = both _ _ (attrs_kept y.attrs (omega arith) f.0) (both _ _ (stmts_kept y.body (omega arith) f.1.0) (maybe_kept break_if_needs (break_if_shape names) (OfBreakIf P) break_if_kept y.leave (omega arith) f.1.1))

  otherwise_case : (y : Otherwise-F GoodClause GoodStmtKind GoodArm GoodBlock GoodContinuing GoodOtherwise GoodStmt) → KeptOtherwiseLayer (map-Otherwise GoodClause GoodStmtKind GoodArm GoodBlock GoodContinuing GoodOtherwise GoodStmt Clause StmtKind Arm Block Continuing Otherwise Stmt (λ x. x.0) (λ x. x.0) (λ x. x.0) (λ x. x.0) (λ x. x.0) (λ x. x.0) (λ x. x.0) y)
  otherwise_case y h f = y.body.1 h f

  stmt_case : (y : Stmt-F GoodClause GoodStmtKind GoodArm GoodBlock GoodContinuing GoodOtherwise GoodStmt) → KeptStmtLayer (map-Stmt GoodClause GoodStmtKind GoodArm GoodBlock GoodContinuing GoodOtherwise GoodStmt Clause StmtKind Arm Block Continuing Otherwise Stmt (λ x. x.0) (λ x. x.0) (λ x. x.0) (λ x. x.0) (λ x. x.0) (λ x. x.0) (λ x. x.0) y)
  stmt_case y h f = y.kind.1 h y.place f

  block_kept : (x : Block) → KeptBlock x
  block_kept =
      ind-Block KeptClause KeptStmtKind KeptArm KeptBlock KeptContinuing KeptOtherwise KeptStmt
      (λ x y is h others f. subst (λ n. (n ≤ k) × OfClauses P others) (sym (fold-roll-Clause ℕ ℕ ℕ ℕ ℕ ℕ ℕ clause_needs stmt_kind_needs arm_needs block_layer_needs continuing_needs otherwise_needs stmt_layer_needs x)) (subst KeptClauseLayer is (clause_case y) (subst (λ n. n ≤ length names) (fold-roll-Clause ℕ ℕ ℕ ℕ ℕ ℕ ℕ clause_needs stmt_kind_needs arm_needs block_layer_needs continuing_needs otherwise_needs stmt_layer_needs x) h) others (subst (λ (s : ClauseShapes → ClauseShapes). OfClauses P (s others)) (fold-roll-Clause (ClauseShapes → ClauseShapes) (Place → StmtShape) (ArmShapes → ArmShapes) BlockShape ContinuingShape ArmShapes StmtShape (clause_step names) (stmt_kind_step names) (arm_step names) (block_step names) (continuing_step names) otherwise_step stmt_step x) f)))
      (λ x y is h place f. subst (λ n. n ≤ k) (sym (fold-roll-StmtKind ℕ ℕ ℕ ℕ ℕ ℕ ℕ clause_needs stmt_kind_needs arm_needs block_layer_needs continuing_needs otherwise_needs stmt_layer_needs x)) (subst KeptStmtKindLayer is (stmt_kind_case y) (subst (λ n. n ≤ length names) (fold-roll-StmtKind ℕ ℕ ℕ ℕ ℕ ℕ ℕ clause_needs stmt_kind_needs arm_needs block_layer_needs continuing_needs otherwise_needs stmt_layer_needs x) h) place (subst (λ (s : Place → StmtShape). OfStmt P (s place)) (fold-roll-StmtKind (ClauseShapes → ClauseShapes) (Place → StmtShape) (ArmShapes → ArmShapes) BlockShape ContinuingShape ArmShapes StmtShape (clause_step names) (stmt_kind_step names) (arm_step names) (block_step names) (continuing_step names) otherwise_step stmt_step x) f)))
      (λ x y is h others f. subst (λ n. (n ≤ k) × OfArms P others) (sym (fold-roll-Arm ℕ ℕ ℕ ℕ ℕ ℕ ℕ clause_needs stmt_kind_needs arm_needs block_layer_needs continuing_needs otherwise_needs stmt_layer_needs x)) (subst KeptArmLayer is (arm_case y) (subst (λ n. n ≤ length names) (fold-roll-Arm ℕ ℕ ℕ ℕ ℕ ℕ ℕ clause_needs stmt_kind_needs arm_needs block_layer_needs continuing_needs otherwise_needs stmt_layer_needs x) h) others (subst (λ (s : ArmShapes → ArmShapes). OfArms P (s others)) (fold-roll-Arm (ClauseShapes → ClauseShapes) (Place → StmtShape) (ArmShapes → ArmShapes) BlockShape ContinuingShape ArmShapes StmtShape (clause_step names) (stmt_kind_step names) (arm_step names) (block_step names) (continuing_step names) otherwise_step stmt_step x) f)))
      (λ x y is h f. subst (λ n. n ≤ k) (sym (fold-roll-Block ℕ ℕ ℕ ℕ ℕ ℕ ℕ clause_needs stmt_kind_needs arm_needs block_layer_needs continuing_needs otherwise_needs stmt_layer_needs x)) (subst KeptBlockLayer is (block_case y) (subst (λ n. n ≤ length names) (fold-roll-Block ℕ ℕ ℕ ℕ ℕ ℕ ℕ clause_needs stmt_kind_needs arm_needs block_layer_needs continuing_needs otherwise_needs stmt_layer_needs x) h) (subst (OfBlock P) (fold-roll-Block (ClauseShapes → ClauseShapes) (Place → StmtShape) (ArmShapes → ArmShapes) BlockShape ContinuingShape ArmShapes StmtShape (clause_step names) (stmt_kind_step names) (arm_step names) (block_step names) (continuing_step names) otherwise_step stmt_step x) f)))
      (λ x y is h f. subst (λ n. n ≤ k) (sym (fold-roll-Continuing ℕ ℕ ℕ ℕ ℕ ℕ ℕ clause_needs stmt_kind_needs arm_needs block_layer_needs continuing_needs otherwise_needs stmt_layer_needs x)) (subst KeptContinuingLayer is (continuing_case y) (subst (λ n. n ≤ length names) (fold-roll-Continuing ℕ ℕ ℕ ℕ ℕ ℕ ℕ clause_needs stmt_kind_needs arm_needs block_layer_needs continuing_needs otherwise_needs stmt_layer_needs x) h) (subst (OfContinuing P) (fold-roll-Continuing (ClauseShapes → ClauseShapes) (Place → StmtShape) (ArmShapes → ArmShapes) BlockShape ContinuingShape ArmShapes StmtShape (clause_step names) (stmt_kind_step names) (arm_step names) (block_step names) (continuing_step names) otherwise_step stmt_step x) f)))
      (λ x y is h f. subst (λ n. n ≤ k) (sym (fold-roll-Otherwise ℕ ℕ ℕ ℕ ℕ ℕ ℕ clause_needs stmt_kind_needs arm_needs block_layer_needs continuing_needs otherwise_needs stmt_layer_needs x)) (subst KeptOtherwiseLayer is (otherwise_case y) (subst (λ n. n ≤ length names) (fold-roll-Otherwise ℕ ℕ ℕ ℕ ℕ ℕ ℕ clause_needs stmt_kind_needs arm_needs block_layer_needs continuing_needs otherwise_needs stmt_layer_needs x) h) (subst (OfArms P) (fold-roll-Otherwise (ClauseShapes → ClauseShapes) (Place → StmtShape) (ArmShapes → ArmShapes) BlockShape ContinuingShape ArmShapes StmtShape (clause_step names) (stmt_kind_step names) (arm_step names) (block_step names) (continuing_step names) otherwise_step stmt_step x) f)))
      (λ x y is h f. subst (λ n. n ≤ k) (sym (fold-roll-Stmt ℕ ℕ ℕ ℕ ℕ ℕ ℕ clause_needs stmt_kind_needs arm_needs block_layer_needs continuing_needs otherwise_needs stmt_layer_needs x)) (subst KeptStmtLayer is (stmt_case y) (subst (λ n. n ≤ length names) (fold-roll-Stmt ℕ ℕ ℕ ℕ ℕ ℕ ℕ clause_needs stmt_kind_needs arm_needs block_layer_needs continuing_needs otherwise_needs stmt_layer_needs x) h) (subst (OfStmt P) (fold-roll-Stmt (ClauseShapes → ClauseShapes) (Place → StmtShape) (ArmShapes → ArmShapes) BlockShape ContinuingShape ArmShapes StmtShape (clause_step names) (stmt_kind_step names) (arm_step names) (block_step names) (continuing_step names) otherwise_step stmt_step x) f)))

  member_kept : (m : Member) → Kept member_needs (member_shape names) (OfMember P) m
  member_kept m h f = both _ _ (attrs_kept m.attrs (omega arith) f.0) (both _ _ (named_kept m.name (omega arith) f.1.0) (expr_kept m.ty (omega arith) f.1.1))

  result_kept : (r : FnResult) → Kept result_needs (result_shape names) (OfResult P) r
  result_kept r h f = both _ _ (attrs_kept r.attrs (omega arith) f.0) (expr_kept r.ty (omega arith) f.1)

  decl_kind_kept : (place : Place) (x : DeclKind) → Kept decl_kind_needs (decl_kind_shape names place) (OfDecl P) x
  decl_kind_kept place decl.Empty h f = none
  decl_kind_kept place (decl.Alias name ty) h f = both _ _ (named_kept name (omega arith) f.0) (expr_kept ty (omega arith) f.1)
  decl_kind_kept place (decl.Const b) h f = binding_kept b h f
  decl_kind_kept place (decl.ConstAssert condition) h f = expr_kept condition h f
  decl_kind_kept place (decl.Struct name members trailing end) h f = both _ _ (named_kept name (omega arith) f.0) (all_kept member_needs (member_shape names) (OfMember P) member_kept members (omega arith) f.1)
  decl_kind_kept place (decl.Var attrs v) h f = both _ _ (attrs_kept attrs (omega arith) f.0) (var_kept v (omega arith) f.1)
  decl_kind_kept place (decl.Override attrs keyword name ty value) h f =
      both _ _ (attrs_kept attrs (omega arith) f.0) (both _ _ (named_kept name (omega arith) f.1.0) (both _ _ (maybe_expr_kept ty (omega arith) f.1.1.0) (maybe_expr_kept value (omega arith) f.1.1.1)))
  decl_kind_kept place (decl.Fn attrs keyword name params trailing result body) h f =
      both _ _ (attrs_kept attrs (omega arith) f.0) (both _ _ (named_kept name (omega arith) f.1.0) (both _ _ (all_kept member_needs (member_shape names) (OfMember P) member_kept params (omega arith) f.1.1.0)
      (both _ _ (maybe_kept result_needs (result_shape names) (OfResult P) result_kept result (omega arith) f.1.1.1.0) (block_kept body (omega arith) f.1.1.1.1))))

  decl_kept : (d : Decl) → Kept decl_needs (decl_shape names) (OfDecl P) d
  decl_kept d h f = decl_kind_kept d.place d.kind h f

  rule_kept : (r : Rule) → Kept rule_needs (rule_shape names) (OfRule P) r
  rule_kept (rule.Plain name) h f = named_kept name h f
  rule_kept (rule.Scoped scope dot name) h f = both _ _ (named_kept scope (omega arith) f.0) (named_kept name (omega arith) f.1)

  directive_kind_kept : (place : Place) (x : DirectiveKind) → Kept directive_kind_needs (directive_kind_shape names place) (OfDirective P) x
  directive_kind_kept place (directive.Diagnostic severity r trailing) h f = both _ _ (named_kept severity (omega arith) f.0) (rule_kept r (omega arith) f.1)
  directive_kind_kept place (directive.Requires listed trailing) h f = all_kept named_needs (name_shape names) (OfName P) named_kept listed h f
  directive_kind_kept place (directive.Enable listed trailing) h f = all_kept named_needs (name_shape names) (OfName P) named_kept listed h f

  directive_kept : (d : Directive) → Kept directive_needs (directive_shape names) (OfDirective P) d
  directive_kept d h f = directive_kind_kept d.place d.kind h f

  pub tree_kept : (directives : List Directive) (decls : List Decl) → max (most_of directive_needs directives) (most_of decl_needs decls) ≤ length names
      → OfTree P (record { directives = map (directive_shape names) directives; decls = map (decl_shape names) decls }) → max (most_of directive_needs directives) (most_of decl_needs decls) ≤ k
  tree_kept directives decls h f =
      both _ _ (all_kept directive_needs (directive_shape names) (OfDirective P) directive_kept directives (omega arith) f.0) (all_kept decl_needs (decl_shape names) (OfDecl P) decl_kept decls (omega arith) f.1)

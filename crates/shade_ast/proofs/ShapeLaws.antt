-- A tree that knows its names keeps its shape when names are added.
use Rattle.std.proofs.Common.{◌≡◌, refl, sym, ap, ◌∙◌, subst, ℕ, ◌+◌, ◌≤◌, List, [], ◌∷◌, ◌++◌, length, map, arith, append_assoc, length-append, Option, None, Some}
use Rattle.std.specs.Prelude.{slice_index_or, option_map}
use Rattle.std.proofs.lemmas.List.{get_or_append_left, append-nil}
use Rattle.shade_base.specs.declared.place.Place.{Place}
use Rattle.shade_ast.specs.declared.expr.Named.{Named}
use Rattle.shade_ast.specs.declared.expr.Expr.{Expr, Expr-F, map-Expr, fold-roll-Expr, ind-Expr}
use Rattle.shade_ast.specs.declared.expr.ExprKind.{ExprKind, ExprKind-F, map-ExprKind, fold-roll-ExprKind}
use Rattle.shade_ast.specs.declared.expr.ExprKind.TheOpen as kind
use Rattle.shade_ast.specs.declared.attr.Attr.{Attr}
use Rattle.shade_ast.specs.declared.attr.AttrName.{AttrName}
use Rattle.shade_ast.specs.declared.attr.AttrName.TheVariants as attr
use Rattle.shade_ast.specs.declared.attr.Arguments.{Arguments}
use Rattle.shade_ast.specs.declared.stmt.Var.{Var}
use Rattle.shade_ast.specs.declared.stmt.VarSpace.{VarSpace}
use Rattle.shade_ast.specs.declared.stmt.Binding.{Binding}
use Rattle.shade_ast.specs.declared.stmt.Update.{Update}
use Rattle.shade_ast.specs.declared.stmt.Update.TheVariants as update
use Rattle.shade_ast.specs.declared.stmt.Simple.{Simple}
use Rattle.shade_ast.specs.declared.stmt.Simple.TheVariants as simple
use Rattle.shade_ast.specs.declared.stmt.Selector.{Selector}
use Rattle.shade_ast.specs.declared.stmt.Selector.TheVariants as selector
use Rattle.shade_ast.specs.declared.stmt.BreakIf.{BreakIf}
use Rattle.shade_ast.specs.declared.stmt.Clause.TheOpen as open_stmt
use Rattle.shade_ast.specs.declared.stmt.Clause.{Clause, Clause-F, map-Clause, fold-roll-Clause}
use Rattle.shade_ast.specs.declared.stmt.StmtKind.{StmtKind, StmtKind-F, map-StmtKind, fold-roll-StmtKind}
use Rattle.shade_ast.specs.declared.stmt.Arm.{Arm, Arm-F, map-Arm, fold-roll-Arm}
use Rattle.shade_ast.specs.declared.stmt.Block.{Block, Block-F, map-Block, fold-roll-Block, ind-Block}
use Rattle.shade_ast.specs.declared.stmt.Continuing.{Continuing, Continuing-F, map-Continuing, fold-roll-Continuing}
use Rattle.shade_ast.specs.declared.stmt.Otherwise.{Otherwise, Otherwise-F, map-Otherwise, fold-roll-Otherwise}
use Rattle.shade_ast.specs.declared.stmt.Stmt.{Stmt, Stmt-F, map-Stmt, fold-roll-Stmt, ind-Stmt}
use Rattle.shade_ast.specs.declared.tree.Decl.{Decl}
use Rattle.shade_ast.specs.declared.tree.DeclKind.{DeclKind}
use Rattle.shade_ast.specs.declared.tree.DeclKind.TheVariants as decl
use Rattle.shade_ast.specs.declared.tree.Directive.{Directive}
use Rattle.shade_ast.specs.declared.tree.DirectiveKind.{DirectiveKind}
use Rattle.shade_ast.specs.declared.tree.DirectiveKind.TheVariants as directive
use Rattle.shade_ast.specs.declared.tree.FnResult.{FnResult}
use Rattle.shade_ast.specs.declared.tree.Member.{Member}
use Rattle.shade_ast.specs.declared.tree.Rule.{Rule}
use Rattle.shade_ast.specs.declared.tree.Rule.TheVariants as rule
use Rattle.shade_ast.specs.Shapes.{infixed, prefixed, member, index, call, template, named, paren, attr_name, assign, compound, phony, increment, decrement, call_alone, var_simple, const_simple, let_simple, update_simple, value_selector, StmtShape, block_stmt, simple_stmt, return_stmt, assert_stmt, if_stmt, switch_stmt, loop_stmt, for_stmt, while_stmt, BlockShape, braces, ArmShapes, else_arm, else_if_arm, ClauseShapes, case_clause, default_clause, ContinuingShape, continuing_part, alias_decl, const_decl, assert_decl, struct_decl, var_decl, override_decl, fn_decl, plain_rule, scoped_rule, diagnostic_directive, requires_directive, enable_directive}
use Rattle.shade_ast.specs.Names.{Grows}
use Rattle.shade_ast.specs.Shaped.{name_shape, expr_shapes, kind_step, expr_step, expr_shape, attr_name_shape, arguments_shape, attr_shape, attr_shapes, var_space_shape, var_shape, binding_shape, update_shape, simple_shape, selector_shape, break_if_shape, stmt_shapes, clause_shapes, arm_shapes, maybe_continuing, clause_step, stmt_kind_step, arm_step, block_step, continuing_step, otherwise_step, stmt_step, stmt_shape, block_shape, member_shape, result_shape, decl_kind_shape, decl_shape, rule_shape, directive_kind_shape, directive_shape}
use Rattle.shade_ast.specs.Needs.{most_of, maybe_of, named_needs, kind_needs, expr_layer_needs, expr_needs, attr_name_needs, arguments_need, attr_needs, attrs_need, var_space_needs, var_needs, binding_needs, update_needs, simple_needs, selector_needs, break_if_needs, clause_needs, stmt_kind_needs, arm_needs, block_layer_needs, continuing_needs, otherwise_needs, stmt_layer_needs, stmt_needs, block_needs, member_needs, result_needs, decl_kind_needs, decl_needs, rule_needs, directive_kind_needs, directive_needs}
use Rattle.shade_ast.proofs.ExprLayers.{kind_shape, kind_count}
use Rattle.shade_ast.specs.StmtParts.{clause_shaped, clause_count, arm_shaped, arm_count, continuing_shaped, continuing_count, otherwise_shaped, otherwise_count}
use Rattle.shade_ast.proofs.StmtLayers.{stmt_kind_shaped, stmt_kind_count, block_shaped, block_count, stmt_shaped, stmt_count}

module _ (names more : List (List ℕ)) where
  -- more names change nothing
  abbrev Same : {A B : Type 0} → (A → ℕ) → (List (List ℕ) → A → B) → A → Type 0
  Same needs shape a = needs a ≤ length names → shape (names ++ more) a ≡ shape names a

  -- of what each has with that fact
  same_list : {A B : Type 0} (needs : A → ℕ) (shape : List (List ℕ) → A → B) (l : List ((a : A) × Same needs shape a)) → Same (most_of needs) (λ ns. map (shape ns)) (map (λ a. a.0) l)
  same_list needs shape [] h = refl
  same_list needs shape (a ∷ l) h = λ i. a.1 (omega arith) i ∷ same_list needs shape l (omega arith) i

  text_same : (n : ℕ) → n + 1 ≤ length names → slice_index_or (names ++ more) n [] ≡ slice_index_or names n []
  text_same n h = get_or_append_left names more [] n (omega arith)

  pub named_same : (n : Named) → Same named_needs name_shape n
  named_same n h = λ i. record { place = n.place; text = text_same n.name h i }

  abbrev SameKind : ExprKind → Type 0
  SameKind = Same kind_count kind_shape

  abbrev SameExpr : Expr → Type 0
  SameExpr = Same expr_needs expr_shape

  abbrev SameKindLayer : ExprKind-F ExprKind Expr → Type 0
  SameKindLayer z = kind_needs (map-ExprKind ExprKind Expr ℕ ℕ kind_count expr_needs z) ≤ length names → kind_step (names ++ more) (map-ExprKind _ _ _ _ (kind_shape (names ++ more)) (expr_shape (names ++ more)) z) ≡ kind_step names (map-ExprKind _ _ _ _ (kind_shape names) (expr_shape names) z)

  abbrev SameExprLayer : Expr-F ExprKind Expr → Type 0
  SameExprLayer z = expr_layer_needs (map-Expr ExprKind Expr ℕ ℕ kind_count expr_needs z) ≤ length names → expr_step (map-Expr _ _ _ _ (kind_shape (names ++ more)) (expr_shape (names ++ more)) z) ≡ expr_step (map-Expr _ _ _ _ (kind_shape names) (expr_shape names) z)

  abbrev GoodKind : Type 0
  GoodKind = (k : ExprKind) × SameKind k

  abbrev GoodExpr : Type 0
  GoodExpr = (e : Expr) × SameExpr e

  kind_case : (y : ExprKind-F GoodKind GoodExpr) → SameKindLayer (map-ExprKind GoodKind GoodExpr ExprKind Expr (λ k. k.0) (λ e. e.0) y)
  kind_case (kind.Infix left operator at right) h = λ i place. infixed place (left.1 (omega arith) i) operator at (right.1 (omega arith) i)
  kind_case (kind.Prefix operator operand) h = λ i place. prefixed place operator (operand.1 h i)
  kind_case (kind.Member whole dot name) h = λ i place. member place (whole.1 (omega arith) i) dot (named_same name (omega arith) i)
  kind_case (kind.Index whole bracket at) h = λ i place. index place (whole.1 (omega arith) i) bracket (at.1 (omega arith) i)
  kind_case (kind.Call callee arguments trailing) h = λ i place. call place (callee.1 (omega arith) i) (expr_shapes (same_list expr_needs expr_shape arguments (omega arith) i)) trailing
  kind_case (kind.Template name arguments trailing) h = λ i place. template place (text_same name (omega arith) i) (expr_shapes (same_list expr_needs expr_shape arguments (omega arith) i)) trailing
  kind_case (kind.Name name) h = λ i place. named place (text_same name h i)
  kind_case (kind.Number value suffix) h = refl
  kind_case kind.True h = refl
  kind_case kind.False h = refl
  kind_case (kind.Paren inner) h = λ i place. paren place (inner.1 h i)

  expr_case : (y : Expr-F GoodKind GoodExpr) → SameExprLayer (map-Expr GoodKind GoodExpr ExprKind Expr (λ k. k.0) (λ e. e.0) y)
  expr_case y h = λ i. y.kind.1 h i y.place

  pub expr_same : (e : Expr) → SameExpr e
  expr_same =
      ind-Expr SameKind SameExpr
      (λ x y is h. fold-roll-ExprKind _ _ (kind_step (names ++ more)) expr_step x ∙ subst SameKindLayer is (kind_case y) (subst (λ k. k ≤ length names) (fold-roll-ExprKind ℕ ℕ kind_needs expr_layer_needs x) h) ∙ sym (fold-roll-ExprKind _ _ (kind_step names) expr_step x))
      (λ x y is h. fold-roll-Expr _ _ (kind_step (names ++ more)) expr_step x ∙ subst SameExprLayer is (expr_case y) (subst (λ k. k ≤ length names) (fold-roll-Expr ℕ ℕ kind_needs expr_layer_needs x) h) ∙ sym (fold-roll-Expr _ _ (kind_step names) expr_step x))

  -- of what each has by itself
  pub all_same : {A B : Type 0} (needs : A → ℕ) (shape : List (List ℕ) → A → B) → ((a : A) → Same needs shape a) → (l : List A) → Same (most_of needs) (λ ns. map (shape ns)) l
  all_same needs shape same [] h = refl
  all_same needs shape same (a ∷ l) h = λ i. same a (omega arith) i ∷ all_same needs shape same l (omega arith) i

  pub maybe_same : {A B : Type 0} (needs : A → ℕ) (shape : List (List ℕ) → A → B) → ((a : A) → Same needs shape a) → (o : Option A) → Same (maybe_of needs) (λ ns. option_map (shape ns)) o
  maybe_same needs shape same None h = refl
  maybe_same needs shape same (Some a) h = λ i. Some (same a h i)

  pub attr_name_same : (n : AttrName) → Same attr_name_needs attr_name_shape n
  attr_name_same (attr.Name n) h = λ i. attr_name (named_same n h i)
  attr_name_same (attr.Diagnostic place) h = refl
  attr_name_same (attr.Const place) h = refl

  pub arguments_same : (a : Arguments) → Same arguments_need arguments_shape a
  arguments_same a h = λ i. (expr_shapes (all_same expr_needs expr_shape expr_same a.items h i), a.trailing)

  pub attr_same : (a : Attr) → Same attr_needs attr_shape a
  attr_same a h = λ i. record { place = a.place; name = attr_name_same a.name (omega arith) i; arguments = maybe_same arguments_need arguments_shape arguments_same a.arguments (omega arith) i }

  pub attrs_same : (l : List Attr) → Same attrs_need attr_shapes l
  attrs_same l h = all_same attr_needs attr_shape attr_same l h

  pub maybe_expr_same : (o : Option Expr) → Same (maybe_of expr_needs) (λ ns. option_map (expr_shape ns)) o
  maybe_expr_same o h = maybe_same expr_needs expr_shape expr_same o h

  pub var_space_same : (s : VarSpace) → Same var_space_needs var_space_shape s
  var_space_same s h = λ i. record { space = named_same s.space (omega arith) i; access = maybe_same named_needs name_shape named_same s.access (omega arith) i; trailing = s.trailing }

  pub var_same : (v : Var) → Same var_needs var_shape v
  var_same v h = λ i. record { place = v.keyword; space = maybe_same var_space_needs var_space_shape var_space_same v.space (omega arith) i; name = named_same v.name (omega arith) i; ty = maybe_expr_same v.ty (omega arith) i; value = maybe_expr_same v.value (omega arith) i }

  pub binding_same : (b : Binding) → Same binding_needs binding_shape b
  binding_same b h = λ i. record { place = b.keyword; name = named_same b.name (omega arith) i; ty = maybe_expr_same b.ty (omega arith) i; value = expr_same b.value (omega arith) i }

  pub update_same : (u : Update) → Same update_needs update_shape u
  update_same (update.Assign target at value) h = λ i. assign (expr_same target (omega arith) i) at (expr_same value (omega arith) i)
  update_same (update.Compound target operator at value) h = λ i. compound (expr_same target (omega arith) i) operator at (expr_same value (omega arith) i)
  update_same (update.Phony underscore at value) h = λ i. phony underscore at (expr_same value h i)
  update_same (update.Increment target at) h = λ i. increment (expr_same target h i) at
  update_same (update.Decrement target at) h = λ i. decrement (expr_same target h i) at
  update_same (update.Call e) h = λ i. call_alone (expr_same e h i)

  pub simple_same : (s : Simple) → Same simple_needs simple_shape s
  simple_same (simple.Var v) h = λ i. var_simple (var_same v h i)
  simple_same (simple.Const b) h = λ i. const_simple (binding_same b h i)
  simple_same (simple.Let b) h = λ i. let_simple (binding_same b h i)
  simple_same (simple.Update u) h = λ i. update_simple (update_same u h i)

  pub selector_same : (s : Selector) → Same selector_needs selector_shape s
  selector_same (selector.Default place) h = refl
  selector_same (selector.Value e) h = λ i. value_selector (expr_same e h i)

  pub break_if_same : (b : BreakIf) → Same break_if_needs break_if_shape b
  break_if_same b h = λ i. record { break_place = b.break_keyword; if_place = b.if_keyword; condition = expr_same b.condition h i }

  abbrev SameClause : Clause → Type 0
  SameClause = Same clause_count clause_shaped

  abbrev SameStmtKind : StmtKind → Type 0
  SameStmtKind = Same stmt_kind_count stmt_kind_shaped

  abbrev SameArm : Arm → Type 0
  SameArm = Same arm_count arm_shaped

  abbrev SameBlock : Block → Type 0
  SameBlock = Same block_count block_shaped

  abbrev SameContinuing : Continuing → Type 0
  SameContinuing = Same continuing_count continuing_shaped

  abbrev SameOtherwise : Otherwise → Type 0
  SameOtherwise = Same otherwise_count otherwise_shaped

  abbrev SameStmt : Stmt → Type 0
  SameStmt = Same stmt_count stmt_shaped

  abbrev SameClauseLayer : Clause-F Clause StmtKind Arm Block Continuing Otherwise Stmt → Type 0
  SameClauseLayer z = clause_needs (map-Clause Clause StmtKind Arm Block Continuing Otherwise Stmt ℕ ℕ ℕ ℕ ℕ ℕ ℕ clause_count stmt_kind_count arm_count block_count continuing_count otherwise_count stmt_count z) ≤ length names → clause_step (names ++ more) (map-Clause Clause StmtKind Arm Block Continuing Otherwise Stmt (ClauseShapes → ClauseShapes) (Place → StmtShape) (ArmShapes → ArmShapes) BlockShape ContinuingShape ArmShapes StmtShape (clause_shaped (names ++ more)) (stmt_kind_shaped (names ++ more)) (arm_shaped (names ++ more)) (block_shaped (names ++ more)) (continuing_shaped (names ++ more)) (otherwise_shaped (names ++ more)) (stmt_shaped (names ++ more)) z) ≡ clause_step names (map-Clause Clause StmtKind Arm Block Continuing Otherwise Stmt (ClauseShapes → ClauseShapes) (Place → StmtShape) (ArmShapes → ArmShapes) BlockShape ContinuingShape ArmShapes StmtShape (clause_shaped names) (stmt_kind_shaped names) (arm_shaped names) (block_shaped names) (continuing_shaped names) (otherwise_shaped names) (stmt_shaped names) z)

  abbrev SameStmtKindLayer : StmtKind-F Clause StmtKind Arm Block Continuing Otherwise Stmt → Type 0
  SameStmtKindLayer z = stmt_kind_needs (map-StmtKind Clause StmtKind Arm Block Continuing Otherwise Stmt ℕ ℕ ℕ ℕ ℕ ℕ ℕ clause_count stmt_kind_count arm_count block_count continuing_count otherwise_count stmt_count z) ≤ length names → stmt_kind_step (names ++ more) (map-StmtKind Clause StmtKind Arm Block Continuing Otherwise Stmt (ClauseShapes → ClauseShapes) (Place → StmtShape) (ArmShapes → ArmShapes) BlockShape ContinuingShape ArmShapes StmtShape (clause_shaped (names ++ more)) (stmt_kind_shaped (names ++ more)) (arm_shaped (names ++ more)) (block_shaped (names ++ more)) (continuing_shaped (names ++ more)) (otherwise_shaped (names ++ more)) (stmt_shaped (names ++ more)) z) ≡ stmt_kind_step names (map-StmtKind Clause StmtKind Arm Block Continuing Otherwise Stmt (ClauseShapes → ClauseShapes) (Place → StmtShape) (ArmShapes → ArmShapes) BlockShape ContinuingShape ArmShapes StmtShape (clause_shaped names) (stmt_kind_shaped names) (arm_shaped names) (block_shaped names) (continuing_shaped names) (otherwise_shaped names) (stmt_shaped names) z)

  abbrev SameArmLayer : Arm-F Clause StmtKind Arm Block Continuing Otherwise Stmt → Type 0
  SameArmLayer z = arm_needs (map-Arm Clause StmtKind Arm Block Continuing Otherwise Stmt ℕ ℕ ℕ ℕ ℕ ℕ ℕ clause_count stmt_kind_count arm_count block_count continuing_count otherwise_count stmt_count z) ≤ length names → arm_step (names ++ more) (map-Arm Clause StmtKind Arm Block Continuing Otherwise Stmt (ClauseShapes → ClauseShapes) (Place → StmtShape) (ArmShapes → ArmShapes) BlockShape ContinuingShape ArmShapes StmtShape (clause_shaped (names ++ more)) (stmt_kind_shaped (names ++ more)) (arm_shaped (names ++ more)) (block_shaped (names ++ more)) (continuing_shaped (names ++ more)) (otherwise_shaped (names ++ more)) (stmt_shaped (names ++ more)) z) ≡ arm_step names (map-Arm Clause StmtKind Arm Block Continuing Otherwise Stmt (ClauseShapes → ClauseShapes) (Place → StmtShape) (ArmShapes → ArmShapes) BlockShape ContinuingShape ArmShapes StmtShape (clause_shaped names) (stmt_kind_shaped names) (arm_shaped names) (block_shaped names) (continuing_shaped names) (otherwise_shaped names) (stmt_shaped names) z)

  abbrev SameBlockLayer : Block-F Clause StmtKind Arm Block Continuing Otherwise Stmt → Type 0
  SameBlockLayer z = block_layer_needs (map-Block Clause StmtKind Arm Block Continuing Otherwise Stmt ℕ ℕ ℕ ℕ ℕ ℕ ℕ clause_count stmt_kind_count arm_count block_count continuing_count otherwise_count stmt_count z) ≤ length names → block_step (names ++ more) (map-Block Clause StmtKind Arm Block Continuing Otherwise Stmt (ClauseShapes → ClauseShapes) (Place → StmtShape) (ArmShapes → ArmShapes) BlockShape ContinuingShape ArmShapes StmtShape (clause_shaped (names ++ more)) (stmt_kind_shaped (names ++ more)) (arm_shaped (names ++ more)) (block_shaped (names ++ more)) (continuing_shaped (names ++ more)) (otherwise_shaped (names ++ more)) (stmt_shaped (names ++ more)) z) ≡ block_step names (map-Block Clause StmtKind Arm Block Continuing Otherwise Stmt (ClauseShapes → ClauseShapes) (Place → StmtShape) (ArmShapes → ArmShapes) BlockShape ContinuingShape ArmShapes StmtShape (clause_shaped names) (stmt_kind_shaped names) (arm_shaped names) (block_shaped names) (continuing_shaped names) (otherwise_shaped names) (stmt_shaped names) z)

  abbrev SameContinuingLayer : Continuing-F Clause StmtKind Arm Block Continuing Otherwise Stmt → Type 0
  SameContinuingLayer z = continuing_needs (map-Continuing Clause StmtKind Arm Block Continuing Otherwise Stmt ℕ ℕ ℕ ℕ ℕ ℕ ℕ clause_count stmt_kind_count arm_count block_count continuing_count otherwise_count stmt_count z) ≤ length names → continuing_step (names ++ more) (map-Continuing Clause StmtKind Arm Block Continuing Otherwise Stmt (ClauseShapes → ClauseShapes) (Place → StmtShape) (ArmShapes → ArmShapes) BlockShape ContinuingShape ArmShapes StmtShape (clause_shaped (names ++ more)) (stmt_kind_shaped (names ++ more)) (arm_shaped (names ++ more)) (block_shaped (names ++ more)) (continuing_shaped (names ++ more)) (otherwise_shaped (names ++ more)) (stmt_shaped (names ++ more)) z) ≡ continuing_step names (map-Continuing Clause StmtKind Arm Block Continuing Otherwise Stmt (ClauseShapes → ClauseShapes) (Place → StmtShape) (ArmShapes → ArmShapes) BlockShape ContinuingShape ArmShapes StmtShape (clause_shaped names) (stmt_kind_shaped names) (arm_shaped names) (block_shaped names) (continuing_shaped names) (otherwise_shaped names) (stmt_shaped names) z)

  abbrev SameOtherwiseLayer : Otherwise-F Clause StmtKind Arm Block Continuing Otherwise Stmt → Type 0
  SameOtherwiseLayer z = otherwise_needs (map-Otherwise Clause StmtKind Arm Block Continuing Otherwise Stmt ℕ ℕ ℕ ℕ ℕ ℕ ℕ clause_count stmt_kind_count arm_count block_count continuing_count otherwise_count stmt_count z) ≤ length names → otherwise_step (map-Otherwise Clause StmtKind Arm Block Continuing Otherwise Stmt (ClauseShapes → ClauseShapes) (Place → StmtShape) (ArmShapes → ArmShapes) BlockShape ContinuingShape ArmShapes StmtShape (clause_shaped (names ++ more)) (stmt_kind_shaped (names ++ more)) (arm_shaped (names ++ more)) (block_shaped (names ++ more)) (continuing_shaped (names ++ more)) (otherwise_shaped (names ++ more)) (stmt_shaped (names ++ more)) z) ≡ otherwise_step (map-Otherwise Clause StmtKind Arm Block Continuing Otherwise Stmt (ClauseShapes → ClauseShapes) (Place → StmtShape) (ArmShapes → ArmShapes) BlockShape ContinuingShape ArmShapes StmtShape (clause_shaped names) (stmt_kind_shaped names) (arm_shaped names) (block_shaped names) (continuing_shaped names) (otherwise_shaped names) (stmt_shaped names) z)

  abbrev SameStmtLayer : Stmt-F Clause StmtKind Arm Block Continuing Otherwise Stmt → Type 0
  SameStmtLayer z = stmt_layer_needs (map-Stmt Clause StmtKind Arm Block Continuing Otherwise Stmt ℕ ℕ ℕ ℕ ℕ ℕ ℕ clause_count stmt_kind_count arm_count block_count continuing_count otherwise_count stmt_count z) ≤ length names → stmt_step (map-Stmt Clause StmtKind Arm Block Continuing Otherwise Stmt (ClauseShapes → ClauseShapes) (Place → StmtShape) (ArmShapes → ArmShapes) BlockShape ContinuingShape ArmShapes StmtShape (clause_shaped (names ++ more)) (stmt_kind_shaped (names ++ more)) (arm_shaped (names ++ more)) (block_shaped (names ++ more)) (continuing_shaped (names ++ more)) (otherwise_shaped (names ++ more)) (stmt_shaped (names ++ more)) z) ≡ stmt_step (map-Stmt Clause StmtKind Arm Block Continuing Otherwise Stmt (ClauseShapes → ClauseShapes) (Place → StmtShape) (ArmShapes → ArmShapes) BlockShape ContinuingShape ArmShapes StmtShape (clause_shaped names) (stmt_kind_shaped names) (arm_shaped names) (block_shaped names) (continuing_shaped names) (otherwise_shaped names) (stmt_shaped names) z)

  abbrev GoodClause : Type 0
  GoodClause = (x : Clause) × SameClause x

  abbrev GoodStmtKind : Type 0
  GoodStmtKind = (x : StmtKind) × SameStmtKind x

  abbrev GoodArm : Type 0
  GoodArm = (x : Arm) × SameArm x

  abbrev GoodBlock : Type 0
  GoodBlock = (x : Block) × SameBlock x

  abbrev GoodContinuing : Type 0
  GoodContinuing = (x : Continuing) × SameContinuing x

  abbrev GoodOtherwise : Type 0
  GoodOtherwise = (x : Otherwise) × SameOtherwise x

  abbrev GoodStmt : Type 0
  GoodStmt = (x : Stmt) × SameStmt x

  clause_case : (y : Clause-F GoodClause GoodStmtKind GoodArm GoodBlock GoodContinuing GoodOtherwise GoodStmt) → SameClauseLayer (map-Clause GoodClause GoodStmtKind GoodArm GoodBlock GoodContinuing GoodOtherwise GoodStmt Clause StmtKind Arm Block Continuing Otherwise Stmt (λ x. x.0) (λ x. x.0) (λ x. x.0) (λ x. x.0) (λ x. x.0) (λ x. x.0) (λ x. x.0) y)
  clause_case (open_stmt.Case keyword selectors trailing colon body) h = λ i others. case_clause keyword (all_same selector_needs selector_shape selector_same selectors (omega arith) i) trailing colon (body.1 (omega arith) i) others
  clause_case (open_stmt.Default keyword colon body) h = λ i others. default_clause keyword colon (body.1 h i) others

  stmt_kind_case : (y : StmtKind-F GoodClause GoodStmtKind GoodArm GoodBlock GoodContinuing GoodOtherwise GoodStmt) → SameStmtKindLayer (map-StmtKind GoodClause GoodStmtKind GoodArm GoodBlock GoodContinuing GoodOtherwise GoodStmt Clause StmtKind Arm Block Continuing Otherwise Stmt (λ x. x.0) (λ x. x.0) (λ x. x.0) (λ x. x.0) (λ x. x.0) (λ x. x.0) (λ x. x.0) y)
  stmt_kind_case open_stmt.Empty h = refl
  stmt_kind_case (open_stmt.Block block) h = λ i place. block_stmt place (block.1 h i)
  stmt_kind_case (open_stmt.Simple s) h = λ i place. simple_stmt place (simple_same s h i)
  stmt_kind_case (open_stmt.Return value) h = λ i place. return_stmt place (maybe_expr_same value h i)
  stmt_kind_case open_stmt.Break h = refl
  stmt_kind_case open_stmt.Continue h = refl
  stmt_kind_case open_stmt.Discard h = refl
  stmt_kind_case (open_stmt.ConstAssert condition) h = λ i place. assert_stmt place (expr_same condition h i)
  stmt_kind_case (open_stmt.If attrs keyword condition then arms None) h = λ i place. if_stmt place (attrs_same attrs (omega arith) i) keyword (expr_same condition (omega arith) i) (then.1 (omega arith) i) (arm_shapes (same_list arm_count arm_shaped arms (omega arith) i) None)
  stmt_kind_case (open_stmt.If attrs keyword condition then arms (Some otherwise)) h = λ i place. if_stmt place (attrs_same attrs (omega arith) i) keyword (expr_same condition (omega arith) i) (then.1 (omega arith) i) (arm_shapes (same_list arm_count arm_shaped arms (omega arith) i) (Some (otherwise.1 (omega arith) i)))
  stmt_kind_case (open_stmt.Switch attrs keyword chosen inner clauses end) h = λ i place. switch_stmt place (attrs_same attrs (omega arith) i) keyword (expr_same chosen (omega arith) i) (attrs_same inner (omega arith) i) (clause_shapes (same_list clause_count clause_shaped clauses (omega arith) i)) end
  stmt_kind_case (open_stmt.Loop attrs keyword inner body None end) h = λ i place. loop_stmt place (attrs_same attrs (omega arith) i) keyword (attrs_same inner (omega arith) i) (stmt_shapes (same_list stmt_count stmt_shaped body (omega arith) i)) (maybe_continuing None) end
  stmt_kind_case (open_stmt.Loop attrs keyword inner body (Some continuing) end) h = λ i place. loop_stmt place (attrs_same attrs (omega arith) i) keyword (attrs_same inner (omega arith) i) (stmt_shapes (same_list stmt_count stmt_shaped body (omega arith) i)) (maybe_continuing (Some (continuing.1 (omega arith) i))) end
  stmt_kind_case (open_stmt.For attrs keyword initial condition changed body) h = λ i place. for_stmt place (attrs_same attrs (omega arith) i) keyword (maybe_same simple_needs simple_shape simple_same initial (omega arith) i) (maybe_expr_same condition (omega arith) i) (maybe_same update_needs update_shape update_same changed (omega arith) i) (body.1 (omega arith) i)
  stmt_kind_case (open_stmt.While attrs keyword condition body) h = λ i place. while_stmt place (attrs_same attrs (omega arith) i) keyword (expr_same condition (omega arith) i) (body.1 (omega arith) i)

  arm_case : (y : Arm-F GoodClause GoodStmtKind GoodArm GoodBlock GoodContinuing GoodOtherwise GoodStmt) → SameArmLayer (map-Arm GoodClause GoodStmtKind GoodArm GoodBlock GoodContinuing GoodOtherwise GoodStmt Clause StmtKind Arm Block Continuing Otherwise Stmt (λ x. x.0) (λ x. x.0) (λ x. x.0) (λ x. x.0) (λ x. x.0) (λ x. x.0) (λ x. x.0) y)
  arm_case y h = λ i others. else_if_arm y.else_keyword y.if_keyword (expr_same y.condition (omega arith) i) (y.body.1 (omega arith) i) others

  block_case : (y : Block-F GoodClause GoodStmtKind GoodArm GoodBlock GoodContinuing GoodOtherwise GoodStmt) → SameBlockLayer (map-Block GoodClause GoodStmtKind GoodArm GoodBlock GoodContinuing GoodOtherwise GoodStmt Clause StmtKind Arm Block Continuing Otherwise Stmt (λ x. x.0) (λ x. x.0) (λ x. x.0) (λ x. x.0) (λ x. x.0) (λ x. x.0) (λ x. x.0) y)
  block_case y h = λ i. braces y.place (attrs_same y.attrs (omega arith) i) (stmt_shapes (same_list stmt_count stmt_shaped y.body (omega arith) i)) y.end

  continuing_case : (y : Continuing-F GoodClause GoodStmtKind GoodArm GoodBlock GoodContinuing GoodOtherwise GoodStmt) → SameContinuingLayer (map-Continuing GoodClause GoodStmtKind GoodArm GoodBlock GoodContinuing GoodOtherwise GoodStmt Clause StmtKind Arm Block Continuing Otherwise Stmt (λ x. x.0) (λ x. x.0) (λ x. x.0) (λ x. x.0) (λ x. x.0) (λ x. x.0) (λ x. x.0) y)
  continuing_case y h = λ i. continuing_part y.keyword (attrs_same y.attrs (omega arith) i) (stmt_shapes (same_list stmt_count stmt_shaped y.body (omega arith) i)) (maybe_same break_if_needs break_if_shape break_if_same y.leave (omega arith) i) y.end

  otherwise_case : (y : Otherwise-F GoodClause GoodStmtKind GoodArm GoodBlock GoodContinuing GoodOtherwise GoodStmt) → SameOtherwiseLayer (map-Otherwise GoodClause GoodStmtKind GoodArm GoodBlock GoodContinuing GoodOtherwise GoodStmt Clause StmtKind Arm Block Continuing Otherwise Stmt (λ x. x.0) (λ x. x.0) (λ x. x.0) (λ x. x.0) (λ x. x.0) (λ x. x.0) (λ x. x.0) y)
  otherwise_case y h = λ i. else_arm y.keyword (y.body.1 h i)

  stmt_case : (y : Stmt-F GoodClause GoodStmtKind GoodArm GoodBlock GoodContinuing GoodOtherwise GoodStmt) → SameStmtLayer (map-Stmt GoodClause GoodStmtKind GoodArm GoodBlock GoodContinuing GoodOtherwise GoodStmt Clause StmtKind Arm Block Continuing Otherwise Stmt (λ x. x.0) (λ x. x.0) (λ x. x.0) (λ x. x.0) (λ x. x.0) (λ x. x.0) (λ x. x.0) y)
  stmt_case y h = λ i. y.kind.1 h i y.place

  pub block_same : (x : Block) → SameBlock x
  block_same =
      ind-Block SameClause SameStmtKind SameArm SameBlock SameContinuing SameOtherwise SameStmt
      (λ x y is h. fold-roll-Clause _ _ _ _ _ _ _ (clause_step (names ++ more)) (stmt_kind_step (names ++ more)) (arm_step (names ++ more)) (block_step (names ++ more)) (continuing_step (names ++ more)) otherwise_step stmt_step x ∙ subst SameClauseLayer is (clause_case y) (subst (λ k. k ≤ length names) (fold-roll-Clause ℕ ℕ ℕ ℕ ℕ ℕ ℕ clause_needs stmt_kind_needs arm_needs block_layer_needs continuing_needs otherwise_needs stmt_layer_needs x) h) ∙ sym (fold-roll-Clause _ _ _ _ _ _ _ (clause_step names) (stmt_kind_step names) (arm_step names) (block_step names) (continuing_step names) otherwise_step stmt_step x))
      (λ x y is h. fold-roll-StmtKind _ _ _ _ _ _ _ (clause_step (names ++ more)) (stmt_kind_step (names ++ more)) (arm_step (names ++ more)) (block_step (names ++ more)) (continuing_step (names ++ more)) otherwise_step stmt_step x ∙ subst SameStmtKindLayer is (stmt_kind_case y) (subst (λ k. k ≤ length names) (fold-roll-StmtKind ℕ ℕ ℕ ℕ ℕ ℕ ℕ clause_needs stmt_kind_needs arm_needs block_layer_needs continuing_needs otherwise_needs stmt_layer_needs x) h) ∙ sym (fold-roll-StmtKind _ _ _ _ _ _ _ (clause_step names) (stmt_kind_step names) (arm_step names) (block_step names) (continuing_step names) otherwise_step stmt_step x))
      (λ x y is h. fold-roll-Arm _ _ _ _ _ _ _ (clause_step (names ++ more)) (stmt_kind_step (names ++ more)) (arm_step (names ++ more)) (block_step (names ++ more)) (continuing_step (names ++ more)) otherwise_step stmt_step x ∙ subst SameArmLayer is (arm_case y) (subst (λ k. k ≤ length names) (fold-roll-Arm ℕ ℕ ℕ ℕ ℕ ℕ ℕ clause_needs stmt_kind_needs arm_needs block_layer_needs continuing_needs otherwise_needs stmt_layer_needs x) h) ∙ sym (fold-roll-Arm _ _ _ _ _ _ _ (clause_step names) (stmt_kind_step names) (arm_step names) (block_step names) (continuing_step names) otherwise_step stmt_step x))
      (λ x y is h. fold-roll-Block _ _ _ _ _ _ _ (clause_step (names ++ more)) (stmt_kind_step (names ++ more)) (arm_step (names ++ more)) (block_step (names ++ more)) (continuing_step (names ++ more)) otherwise_step stmt_step x ∙ subst SameBlockLayer is (block_case y) (subst (λ k. k ≤ length names) (fold-roll-Block ℕ ℕ ℕ ℕ ℕ ℕ ℕ clause_needs stmt_kind_needs arm_needs block_layer_needs continuing_needs otherwise_needs stmt_layer_needs x) h) ∙ sym (fold-roll-Block _ _ _ _ _ _ _ (clause_step names) (stmt_kind_step names) (arm_step names) (block_step names) (continuing_step names) otherwise_step stmt_step x))
      (λ x y is h. fold-roll-Continuing _ _ _ _ _ _ _ (clause_step (names ++ more)) (stmt_kind_step (names ++ more)) (arm_step (names ++ more)) (block_step (names ++ more)) (continuing_step (names ++ more)) otherwise_step stmt_step x ∙ subst SameContinuingLayer is (continuing_case y) (subst (λ k. k ≤ length names) (fold-roll-Continuing ℕ ℕ ℕ ℕ ℕ ℕ ℕ clause_needs stmt_kind_needs arm_needs block_layer_needs continuing_needs otherwise_needs stmt_layer_needs x) h) ∙ sym (fold-roll-Continuing _ _ _ _ _ _ _ (clause_step names) (stmt_kind_step names) (arm_step names) (block_step names) (continuing_step names) otherwise_step stmt_step x))
      (λ x y is h. fold-roll-Otherwise _ _ _ _ _ _ _ (clause_step (names ++ more)) (stmt_kind_step (names ++ more)) (arm_step (names ++ more)) (block_step (names ++ more)) (continuing_step (names ++ more)) otherwise_step stmt_step x ∙ subst SameOtherwiseLayer is (otherwise_case y) (subst (λ k. k ≤ length names) (fold-roll-Otherwise ℕ ℕ ℕ ℕ ℕ ℕ ℕ clause_needs stmt_kind_needs arm_needs block_layer_needs continuing_needs otherwise_needs stmt_layer_needs x) h) ∙ sym (fold-roll-Otherwise _ _ _ _ _ _ _ (clause_step names) (stmt_kind_step names) (arm_step names) (block_step names) (continuing_step names) otherwise_step stmt_step x))
      (λ x y is h. fold-roll-Stmt _ _ _ _ _ _ _ (clause_step (names ++ more)) (stmt_kind_step (names ++ more)) (arm_step (names ++ more)) (block_step (names ++ more)) (continuing_step (names ++ more)) otherwise_step stmt_step x ∙ subst SameStmtLayer is (stmt_case y) (subst (λ k. k ≤ length names) (fold-roll-Stmt ℕ ℕ ℕ ℕ ℕ ℕ ℕ clause_needs stmt_kind_needs arm_needs block_layer_needs continuing_needs otherwise_needs stmt_layer_needs x) h) ∙ sym (fold-roll-Stmt _ _ _ _ _ _ _ (clause_step names) (stmt_kind_step names) (arm_step names) (block_step names) (continuing_step names) otherwise_step stmt_step x))

  pub stmt_same : (x : Stmt) → SameStmt x
  stmt_same =
      ind-Stmt SameClause SameStmtKind SameArm SameBlock SameContinuing SameOtherwise SameStmt
      (λ x y is h. fold-roll-Clause _ _ _ _ _ _ _ (clause_step (names ++ more)) (stmt_kind_step (names ++ more)) (arm_step (names ++ more)) (block_step (names ++ more)) (continuing_step (names ++ more)) otherwise_step stmt_step x ∙ subst SameClauseLayer is (clause_case y) (subst (λ k. k ≤ length names) (fold-roll-Clause ℕ ℕ ℕ ℕ ℕ ℕ ℕ clause_needs stmt_kind_needs arm_needs block_layer_needs continuing_needs otherwise_needs stmt_layer_needs x) h) ∙ sym (fold-roll-Clause _ _ _ _ _ _ _ (clause_step names) (stmt_kind_step names) (arm_step names) (block_step names) (continuing_step names) otherwise_step stmt_step x))
      (λ x y is h. fold-roll-StmtKind _ _ _ _ _ _ _ (clause_step (names ++ more)) (stmt_kind_step (names ++ more)) (arm_step (names ++ more)) (block_step (names ++ more)) (continuing_step (names ++ more)) otherwise_step stmt_step x ∙ subst SameStmtKindLayer is (stmt_kind_case y) (subst (λ k. k ≤ length names) (fold-roll-StmtKind ℕ ℕ ℕ ℕ ℕ ℕ ℕ clause_needs stmt_kind_needs arm_needs block_layer_needs continuing_needs otherwise_needs stmt_layer_needs x) h) ∙ sym (fold-roll-StmtKind _ _ _ _ _ _ _ (clause_step names) (stmt_kind_step names) (arm_step names) (block_step names) (continuing_step names) otherwise_step stmt_step x))
      (λ x y is h. fold-roll-Arm _ _ _ _ _ _ _ (clause_step (names ++ more)) (stmt_kind_step (names ++ more)) (arm_step (names ++ more)) (block_step (names ++ more)) (continuing_step (names ++ more)) otherwise_step stmt_step x ∙ subst SameArmLayer is (arm_case y) (subst (λ k. k ≤ length names) (fold-roll-Arm ℕ ℕ ℕ ℕ ℕ ℕ ℕ clause_needs stmt_kind_needs arm_needs block_layer_needs continuing_needs otherwise_needs stmt_layer_needs x) h) ∙ sym (fold-roll-Arm _ _ _ _ _ _ _ (clause_step names) (stmt_kind_step names) (arm_step names) (block_step names) (continuing_step names) otherwise_step stmt_step x))
      (λ x y is h. fold-roll-Block _ _ _ _ _ _ _ (clause_step (names ++ more)) (stmt_kind_step (names ++ more)) (arm_step (names ++ more)) (block_step (names ++ more)) (continuing_step (names ++ more)) otherwise_step stmt_step x ∙ subst SameBlockLayer is (block_case y) (subst (λ k. k ≤ length names) (fold-roll-Block ℕ ℕ ℕ ℕ ℕ ℕ ℕ clause_needs stmt_kind_needs arm_needs block_layer_needs continuing_needs otherwise_needs stmt_layer_needs x) h) ∙ sym (fold-roll-Block _ _ _ _ _ _ _ (clause_step names) (stmt_kind_step names) (arm_step names) (block_step names) (continuing_step names) otherwise_step stmt_step x))
      (λ x y is h. fold-roll-Continuing _ _ _ _ _ _ _ (clause_step (names ++ more)) (stmt_kind_step (names ++ more)) (arm_step (names ++ more)) (block_step (names ++ more)) (continuing_step (names ++ more)) otherwise_step stmt_step x ∙ subst SameContinuingLayer is (continuing_case y) (subst (λ k. k ≤ length names) (fold-roll-Continuing ℕ ℕ ℕ ℕ ℕ ℕ ℕ clause_needs stmt_kind_needs arm_needs block_layer_needs continuing_needs otherwise_needs stmt_layer_needs x) h) ∙ sym (fold-roll-Continuing _ _ _ _ _ _ _ (clause_step names) (stmt_kind_step names) (arm_step names) (block_step names) (continuing_step names) otherwise_step stmt_step x))
      (λ x y is h. fold-roll-Otherwise _ _ _ _ _ _ _ (clause_step (names ++ more)) (stmt_kind_step (names ++ more)) (arm_step (names ++ more)) (block_step (names ++ more)) (continuing_step (names ++ more)) otherwise_step stmt_step x ∙ subst SameOtherwiseLayer is (otherwise_case y) (subst (λ k. k ≤ length names) (fold-roll-Otherwise ℕ ℕ ℕ ℕ ℕ ℕ ℕ clause_needs stmt_kind_needs arm_needs block_layer_needs continuing_needs otherwise_needs stmt_layer_needs x) h) ∙ sym (fold-roll-Otherwise _ _ _ _ _ _ _ (clause_step names) (stmt_kind_step names) (arm_step names) (block_step names) (continuing_step names) otherwise_step stmt_step x))
      (λ x y is h. fold-roll-Stmt _ _ _ _ _ _ _ (clause_step (names ++ more)) (stmt_kind_step (names ++ more)) (arm_step (names ++ more)) (block_step (names ++ more)) (continuing_step (names ++ more)) otherwise_step stmt_step x ∙ subst SameStmtLayer is (stmt_case y) (subst (λ k. k ≤ length names) (fold-roll-Stmt ℕ ℕ ℕ ℕ ℕ ℕ ℕ clause_needs stmt_kind_needs arm_needs block_layer_needs continuing_needs otherwise_needs stmt_layer_needs x) h) ∙ sym (fold-roll-Stmt _ _ _ _ _ _ _ (clause_step names) (stmt_kind_step names) (arm_step names) (block_step names) (continuing_step names) otherwise_step stmt_step x))

  pub member_same : (m : Member) → Same member_needs member_shape m
  member_same m h = λ i. record { place = m.place; attrs = attrs_same m.attrs (omega arith) i; name = named_same m.name (omega arith) i; ty = expr_same m.ty (omega arith) i }

  pub result_same : (r : FnResult) → Same result_needs result_shape r
  result_same r h = λ i. record { attrs = attrs_same r.attrs (omega arith) i; ty = expr_same r.ty (omega arith) i }

  decl_kind_same : (place : Place) (k : DeclKind) → Same decl_kind_needs (λ ns. decl_kind_shape ns place) k
  decl_kind_same place decl.Empty h = refl
  decl_kind_same place (decl.Alias name ty) h = λ i. alias_decl place (named_same name (omega arith) i) (expr_same ty (omega arith) i)
  decl_kind_same place (decl.Const b) h = λ i. const_decl place (binding_same b h i)
  decl_kind_same place (decl.ConstAssert condition) h = λ i. assert_decl place (expr_same condition h i)
  decl_kind_same place (decl.Struct name members trailing end) h = λ i. struct_decl place (named_same name (omega arith) i) (all_same member_needs member_shape member_same members (omega arith) i) trailing end
  decl_kind_same place (decl.Var attrs v) h = λ i. var_decl place (attrs_same attrs (omega arith) i) (var_same v (omega arith) i)
  decl_kind_same place (decl.Override attrs keyword name ty value) h = λ i. override_decl place (attrs_same attrs (omega arith) i) keyword (named_same name (omega arith) i) (maybe_expr_same ty (omega arith) i) (maybe_expr_same value (omega arith) i)
  decl_kind_same place (decl.Fn attrs keyword name params trailing result body) h = λ i. fn_decl place (attrs_same attrs (omega arith) i) keyword (named_same name (omega arith) i) (all_same member_needs member_shape member_same params (omega arith) i) trailing (maybe_same result_needs result_shape result_same result (omega arith) i) (block_same body (omega arith) i)

  pub decl_same : (d : Decl) → Same decl_needs decl_shape d
  decl_same d h = decl_kind_same d.place d.kind h

  pub rule_same : (r : Rule) → Same rule_needs rule_shape r
  rule_same (rule.Plain name) h = λ i. plain_rule (named_same name h i)
  rule_same (rule.Scoped scope dot name) h = λ i. scoped_rule (named_same scope (omega arith) i) dot (named_same name (omega arith) i)

  directive_kind_same : (place : Place) (k : DirectiveKind) → Same directive_kind_needs (λ ns. directive_kind_shape ns place) k
  directive_kind_same place (directive.Diagnostic severity r trailing) h = λ i. diagnostic_directive place (named_same severity (omega arith) i) (rule_same r (omega arith) i) trailing
  directive_kind_same place (directive.Requires listed trailing) h = λ i. requires_directive place (all_same named_needs name_shape named_same listed h i) trailing
  directive_kind_same place (directive.Enable listed trailing) h = λ i. enable_directive place (all_same named_needs name_shape named_same listed h i) trailing

  pub directive_same : (d : Directive) → Same directive_needs directive_shape d
  directive_same d h = directive_kind_same d.place d.kind h

-- the same of names that grow
pub shape_grows : {A B : Type 0} (needs : A → ℕ) (shape : List (List ℕ) → A → B) → ((names more : List (List ℕ)) (a : A) → needs a ≤ length names → shape (names ++ more) a ≡ shape names a) → (old new : List (List ℕ)) (a : A) → needs a ≤ length old → Grows old new → shape new a ≡ shape old a
shape_grows needs shape same old new a known g = ap (λ ns. shape ns a) g.1 ∙ same old g.0 a known

pub expr_grows : (old new : List (List ℕ)) (e : Expr) → expr_needs e ≤ length old → Grows old new → expr_shape new e ≡ expr_shape old e
expr_grows = shape_grows expr_needs expr_shape expr_same

pub attr_grows : (old new : List (List ℕ)) (a : Attr) → attr_needs a ≤ length old → Grows old new → attr_shape new a ≡ attr_shape old a
attr_grows = shape_grows attr_needs attr_shape attr_same

pub simple_grows : (old new : List (List ℕ)) (s : Simple) → simple_needs s ≤ length old → Grows old new → simple_shape new s ≡ simple_shape old s
simple_grows = shape_grows simple_needs simple_shape simple_same

pub stmt_grows : (old new : List (List ℕ)) (s : Stmt) → stmt_needs s ≤ length old → Grows old new → stmt_shape new s ≡ stmt_shape old s
stmt_grows = shape_grows stmt_needs stmt_shape stmt_same

pub block_grows : (old new : List (List ℕ)) (b : Block) → block_needs b ≤ length old → Grows old new → block_shape new b ≡ block_shape old b
block_grows = shape_grows block_needs block_shape block_same

pub member_grows : (old new : List (List ℕ)) (m : Member) → member_needs m ≤ length old → Grows old new → member_shape new m ≡ member_shape old m
member_grows = shape_grows member_needs member_shape member_same

pub decl_grows : (old new : List (List ℕ)) (d : Decl) → decl_needs d ≤ length old → Grows old new → decl_shape new d ≡ decl_shape old d
decl_grows = shape_grows decl_needs decl_shape decl_same

pub directive_grows : (old new : List (List ℕ)) (d : Directive) → directive_needs d ≤ length old → Grows old new → directive_shape new d ≡ directive_shape old d
directive_grows = shape_grows directive_needs directive_shape directive_same

-- a list of them
pub list_grows : {A B : Type 0} (needs : A → ℕ) (shape : List (List ℕ) → A → B) → ((old new : List (List ℕ)) (a : A) → needs a ≤ length old → Grows old new → shape new a ≡ shape old a) → (old new : List (List ℕ)) (l : List A) → most_of needs l ≤ length old → Grows old new → map (shape new) l ≡ map (shape old) l
list_grows needs shape grows old new [] h g = refl
list_grows needs shape grows old new (a ∷ l) h g = λ i. grows old new a (omega arith) g i ∷ list_grows needs shape grows old new l (omega arith) g i

pub length_grows : (old new : List (List ℕ)) → Grows old new → length old ≤ length new
length_grows old new g = omega (arith, simp length-append at (ap length g.1))

pub grows_here : (names : List (List ℕ)) → Grows names names
grows_here names = ([], sym (append-nil names))

pub grows_trans : (a b c : List (List ℕ)) → Grows a b → Grows b c → Grows a c
grows_trans a b c g h = (g.0 ++ h.0, h.1 ∙ ap (λ xs. xs ++ h.0) g.1 ∙ append_assoc a g.0 h.0)

-- What the events of a tree tell, piece by piece: its nodes in postorder, with the ranges that cover them.
use Rattle.std.proofs.Common.{◌≡◌, refl, sym, ap, ◌∙◌, subst, ℕ, ◌≤◌, Bool, true, false, List, [], ◌∷◌, ◌++◌, length, map, arith, append_assoc, length-append, Option, Some, None}
use Rattle.std.specs.List.{flat_map}
use Rattle.std.specs.Prelude.{Contains}
use Rattle.std.proofs.lemmas.List.Elements.{Contains-append_left, Contains-append_right, Contains-push}
use Rattle.shade_base.specs.declared.place.Place.{Place}
use Rattle.shade_ast.specs.declared.attr.Attr.{Attr}
use Rattle.shade_ast.specs.declared.attr.AttrName.{AttrName}
use Rattle.shade_ast.specs.declared.attr.AttrName.TheVariants as attr
use Rattle.shade_ast.specs.declared.expr.Named.{Named}
use Rattle.shade_ast.specs.declared.expr.Expr.{Expr, Expr-F, map-Expr, fold-roll-Expr, ind-Expr}
use Rattle.shade_ast.specs.declared.expr.ExprKind.{ExprKind, ExprKind-F, map-ExprKind, fold-ExprKind, fold-roll-ExprKind}
use Rattle.shade_ast.specs.declared.expr.ExprKind.TheOpen as kind
use Rattle.shade_ast.specs.declared.stmt.Var.{Var}
use Rattle.shade_ast.specs.declared.stmt.VarSpace.{VarSpace}
use Rattle.shade_ast.specs.declared.stmt.Binding.{Binding}
use Rattle.shade_ast.specs.declared.stmt.Update.{Update}
use Rattle.shade_ast.specs.declared.stmt.Update.TheVariants as update
use Rattle.shade_ast.specs.declared.stmt.Simple.{Simple}
use Rattle.shade_ast.specs.declared.stmt.Simple.TheVariants as simple
use Rattle.shade_ast.specs.declared.stmt.Selector.{Selector}
use Rattle.shade_ast.specs.declared.stmt.Selector.TheVariants as selector
use Rattle.shade_ast.specs.declared.stmt.Clause.TheOpen as open_stmt
use Rattle.shade_ast.specs.declared.stmt.Clause.{Clause, Clause-F, map-Clause, fold-Clause, fold-roll-Clause}
use Rattle.shade_ast.specs.declared.stmt.StmtKind.{StmtKind, StmtKind-F, map-StmtKind, fold-StmtKind, fold-roll-StmtKind}
use Rattle.shade_ast.specs.declared.stmt.Arm.{Arm, Arm-F, map-Arm, fold-Arm, fold-roll-Arm}
use Rattle.shade_ast.specs.declared.stmt.Block.{Block, Block-F, map-Block, fold-Block, fold-roll-Block, out-Block, fold_out-Block}
use Rattle.shade_ast.specs.declared.stmt.Continuing.{Continuing, Continuing-F, map-Continuing, fold-Continuing, fold-roll-Continuing}
use Rattle.shade_ast.specs.declared.stmt.Otherwise.{Otherwise, Otherwise-F, map-Otherwise, fold-Otherwise, fold-roll-Otherwise}
use Rattle.shade_ast.specs.declared.stmt.Stmt.{Stmt, Stmt-F, map-Stmt, fold-Stmt, fold-roll-Stmt, ind-Stmt}
use Rattle.shade_ast.specs.declared.tree.Decl.{Decl}
use Rattle.shade_ast.specs.declared.tree.DeclKind.{DeclKind}
use Rattle.shade_ast.specs.declared.tree.DeclKind.TheVariants as decl
use Rattle.shade_ast.specs.declared.tree.Directive.{Directive}
use Rattle.shade_ast.specs.declared.tree.DirectiveKind.{DirectiveKind}
use Rattle.shade_ast.specs.declared.tree.DirectiveKind.TheVariants as directive
use Rattle.shade_ast.specs.declared.tree.FnResult.{FnResult}
use Rattle.shade_ast.specs.declared.tree.Member.{Member}
use Rattle.shade_ast.specs.declared.tree.Rule.{Rule}
use Rattle.shade_ast.specs.declared.tree.Rule.TheVariants as rule
use Rattle.shade_ast.specs.declared.tree.Tree.{Tree}
use Rattle.shade_ast.specs.Nodes.{joined, joined_of, maybe_of, named_nodes, kind_nodes, expr_layer_nodes, expr_nodes, attr_name_nodes, arguments_nodes, attr_nodes, attrs_nodes, var_space_nodes, var_nodes, binding_nodes, update_nodes, simple_nodes, selector_nodes, break_if_nodes, clause_nodes, stmt_kind_nodes, arm_nodes, block_layer_nodes, continuing_nodes, otherwise_nodes, stmt_layer_nodes, block_nodes, member_nodes, result_nodes, decl_kind_nodes, decl_nodes, rule_nodes, directive_kind_nodes, directive_nodes, tree_nodes}
use Rattle.shade_events.specs.declared.event.Event.TheVariants as event
use Rattle.shade_events.specs.declared.event.Role.{Role}
use Rattle.shade_events.specs.declared.event.Role.TheVariants as role
use Rattle.shade_events.specs.declared.filters.Filter.{Filter}
use Rattle.shade_events.specs.Filters.{bad_directive, bad_severity, directive_filter, filter_of}
use Rattle.shade_events.specs.Events.{Es, In, KindIn, KindEs, all_in, arguments_events, arm_step, attr_events, attr_name_events, attr_role, attrs_events, binding_uses, block_step, body_events, callee, clause_step, continuing_step, decl_events, decl_kind_events, declared_name, declared_node, declares, directive_events, directive_kind_events, directives_events, expr_uses, filter_events, head_events, header, heading, is_entry, kind_step, kind_uses, lacking, leave_events, looked_up, member_declares, member_uses, name_uses, named, node_of, node_or, otherwise_step, param_events, part, range, range_end, result_events, rule_events, scope, selector_events, simple_events, space_events, stmt_events, stmt_step, tree_events, update_events, used, uses_in, var_uses}
use Rattle.shade_events.specs.Events.{joined as all_events, maybe as maybe_events}
use Rattle.shade_scope.specs.Ranges.{KindPiece, Piece, arm_piece, behind, block_layer, block_piece, both, clause_piece, continuing_piece, covering, decl_kind_piece, decl_piece, filters_of, kind_piece, listed, module_filters, otherwise_piece, own, plain, row, stmt_piece, tree_piece}
use Rattle.shade_scope.proofs.Walks.{AllKnown, Plain, Told, Walk, all_left, all_right, within, plain_all, plain_as, plain_given, plain_maybe, told_all, told_as, told_before, told_behind, told_chain, told_left, told_list, told_none, told_onto, told_other, told_own, told_seq}

by_equal : {E P N : Type 0} (R : E → P → N → Type 0) {e e2 : E} {p p2 : P} {n n2 : N} → e ≡ e2 → p ≡ p2 → n ≡ n2 → R e2 p2 n2 → R e p n
by_equal R {e = e} {p = p} {p2 = p2} {n2 = n2} a b c r = subst (λ z. R e p z) (sym c) (subst (λ z. R e z n2) (sym b) (subst (λ z. R z p2 n2) (sym a) r))

module _ (K : ℕ → Type 0) where
  -- ---- expressions

  looked : (r : Role) (n : Named) → Plain K (looked_up r n) []
  looked role.Ignored n = told_none []
  looked role.Used n = told_other (event.Uses n false) refl tt
  looked role.Called n = told_other (event.Uses n true) refl tt

  abbrev kind_events : ExprKind → KindIn
  kind_events = fold-ExprKind KindIn In kind_uses expr_uses

  abbrev kind_numbers : ExprKind → List ℕ
  kind_numbers = fold-ExprKind (List ℕ) (List ℕ) kind_nodes expr_layer_nodes

  abbrev KindTold : KindIn → List ℕ → Type 0
  KindTold es ns = (node : ℕ) (place : Place) (r : Role) → Plain K (es node place r) ns

  abbrev ExprTold : In → List ℕ → Type 0
  ExprTold es ns = (r : Role) → Plain K (es r) ns

  abbrev IsKind : ExprKind → Type 0
  IsKind k = KindTold (kind_events k) (kind_numbers k)

  abbrev IsExpr : Expr → Type 0
  IsExpr e = ExprTold (uses_in e) (expr_nodes e)

  abbrev GoodKindOf : Type 0
  GoodKindOf = (k : ExprKind) × IsKind k

  abbrev GoodExpr : Type 0
  GoodExpr = (e : Expr) × IsExpr e

  abbrev KindLayer : ExprKind-F ExprKind Expr → Type 0
  KindLayer z = KindTold (kind_uses (map-ExprKind ExprKind Expr KindIn In kind_events uses_in z)) (kind_nodes (map-ExprKind ExprKind Expr (List ℕ) (List ℕ) kind_numbers expr_nodes z))

  abbrev ExprLayer : Expr-F ExprKind Expr → Type 0
  ExprLayer z = ExprTold (expr_uses (map-Expr ExprKind Expr KindIn In kind_events uses_in z)) (expr_layer_nodes (map-Expr ExprKind Expr (List ℕ) (List ℕ) kind_numbers expr_nodes z))

  all_told : (l : List GoodExpr) (r : Role) → Plain K (all_in r (map uses_in (map (λ e. e.0) l))) (joined (map expr_nodes (map (λ e. e.0) l)))
  all_told [] r = told_none []
  all_told (e ∷ l) r = told_seq (e.1 r) (all_told l r)

  kind_case : (y : ExprKind-F GoodKindOf GoodExpr) → KindLayer (map-ExprKind GoodKindOf GoodExpr ExprKind Expr (λ k. k.0) (λ e. e.0) y)
  kind_case (kind.Infix left operator at right) node place r = told_seq (left.1 (part r)) (right.1 (part r))
  kind_case (kind.Prefix operator operand) node place r = operand.1 (part r)
  kind_case (kind.Member whole dot member) node place r = told_seq (whole.1 (part r)) (told_own member.node)
  kind_case (kind.Index whole bracket at) node place r = told_seq (whole.1 (part r)) (at.1 (part r))
  kind_case (kind.Call called arguments trailing) node place r = told_seq (called.1 (callee r)) (all_told arguments (part r))
  kind_case (kind.Template name arguments trailing) node place r = told_seq (looked r (named name node place)) (all_told arguments (part r))
  kind_case (kind.Name name) node place r = looked r (named name node place)
  kind_case (kind.Number value suffix) node place r = told_none []
  kind_case kind.True node place r = told_none []
  kind_case kind.False node place r = told_none []
  kind_case (kind.Paren inner) node place r = inner.1 (part r)

  expr_case : (y : Expr-F GoodKindOf GoodExpr) → ExprLayer (map-Expr GoodKindOf GoodExpr ExprKind Expr (λ k. k.0) (λ e. e.0) y)
  expr_case y r = told_seq (y.kind.1 y.node y.place r) (told_own y.node)

  by_two : {E N : Type 0} (R : E → N → Type 0) {e e2 : E} {n n2 : N} → e ≡ e2 → n ≡ n2 → R e2 n2 → R e n
  by_two R {e = e} {n2 = n2} a c r = subst (λ z. R e z) (sym c) (subst (λ z. R z n2) (sym a) r)

  expr_told : (e : Expr) → IsExpr e
  expr_told =
      ind-Expr IsKind IsExpr
      (λ x y is. by_two KindTold (fold-roll-ExprKind _ _ kind_uses expr_uses x) (fold-roll-ExprKind _ _ kind_nodes expr_layer_nodes x) (subst KindLayer is (kind_case y)))
      (λ x y is. by_two ExprTold (fold-roll-Expr _ _ kind_uses expr_uses x) (fold-roll-Expr _ _ kind_nodes expr_layer_nodes x) (subst ExprLayer is (expr_case y)))

  used_told : (e : Expr) → Plain K (used e) (expr_nodes e)
  used_told e = expr_told e role.Used

  arguments_told : (r : Role) (l : List Expr) → Plain K (all_in r (map uses_in l)) (joined (map expr_nodes l))
  arguments_told r [] = told_none []
  arguments_told r (e ∷ l) = told_seq (expr_told e r) (arguments_told r l)

  -- ---- attributes and ranges

  named_told : (n : Named) → Plain K (node_of n) (named_nodes n)
  named_told n = told_own n.node

  lacking_told : (o : Option Place) → Plain K (lacking o) []
  lacking_told None = told_none []
  lacking_told (Some place) = told_other (event.LacksSeverity place) refl tt

  attr_name_told : (n : AttrName) → Plain K (attr_name_events n) (attr_name_nodes n)
  attr_name_told (attr.Name n) = named_told n
  attr_name_told (attr.Diagnostic place) = told_none []
  attr_name_told (attr.Const place) = told_none []

  filters_told : {A : Type 0} (f : A → Option Filter) (l : List A) → flat_map (λ a. filter_events (f a)) l ≡ map event.Filters (flat_map (λ a. listed (f a)) l)
  filters_told f [] = refl
  filters_told f (a ∷ l) = more (f a) (flat_map (λ x. filter_events (f x)) l) (flat_map (λ x. listed (f x)) l) (filters_told f l)
    where
      more : (o : Option Filter) (es : Es) (fs : List Filter) → es ≡ map event.Filters fs → filter_events o ++ es ≡ map event.Filters (listed o ++ fs)
      more None es fs h = h
      more (Some x) es fs h = ap (λ (z : Es). event.Filters x ∷ z) h

  -- each filter comes from what has a node of its own
  short : (o : Option Filter) → length (listed o) ≤ 1
  short None = omega arith
  short (Some f) = omega arith

  few : {A : Type 0} (f : A → Option Filter) (h : A → List ℕ) → ((a : A) → 1 ≤ length (h a)) → (l : List A) → length (flat_map (λ a. listed (f a)) l) ≤ length (joined_of h l)
  few f h one [] = omega arith
  few f h one (a ∷ l) =
      omega (arith, length-append (listed (f a)) (flat_map (λ x. listed (f x)) l), length-append (h a) (joined_of h l), short (f a), one a, few f h one l)

  at_end : (ns : List ℕ) (n : ℕ) → 1 ≤ length (ns ++ n ∷ [])
  at_end ns n = omega (arith, length-append ns (n ∷ []))

  as_two : (a b n : List ℕ) → a ++ (b ++ n) ≡ (a ++ b) ++ n
  as_two a b n = sym (append_assoc a b n)

  as_three : (a b c n : List ℕ) → a ++ (b ++ (c ++ n)) ≡ (a ++ (b ++ c)) ++ n
  as_three a b c n = ap (λ z. a ++ z) (as_two b c n) ∙ as_two a (b ++ c) n

  as_four : (a b c d n : List ℕ) → a ++ (b ++ (c ++ (d ++ n))) ≡ (a ++ (b ++ (c ++ d))) ++ n
  as_four a b c d n = ap (λ z. a ++ z) (as_three b c d n) ∙ as_two a (b ++ (c ++ d)) n

  as_five : (a b c d e n : List ℕ) → a ++ (b ++ (c ++ (d ++ (e ++ n)))) ≡ (a ++ (b ++ (c ++ (d ++ e)))) ++ n
  as_five a b c d e n = ap (λ z. a ++ z) (as_four b c d e n) ∙ as_two a (b ++ (c ++ (d ++ e))) n

  -- what some filters cover begins behind what they come from
  covered_told : {a b t : Es} {p : Piece} {ns hs : List ℕ} (fs : List Filter) → length fs ≤ length hs → Plain K a hs → Told K b (event.Uncovers ∷ t) p ns
      → Told K ((a ++ event.Covers ∷ map event.Filters fs) ++ b) t (both (plain hs) (covering fs p)) (hs ++ ns)
  covered_told {a = a} {b = b} {ns = ns} {hs = hs} fs few_filters first x = record {
    walk =
        λ all w.
        let inside : Es = map event.Filters fs ++ (b ++ w) in
        let grouped : ((a ++ event.Covers ∷ map event.Filters fs) ++ b) ++ w ≡ a ++ event.Covers ∷ inside =
        append_assoc (a ++ event.Covers ∷ map event.Filters fs) b w ∙ append_assoc a (event.Covers ∷ map event.Filters fs) (b ++ w) in
        within hs fs few_filters (subst (λ (z : Es). Walk K z (event.Covers ∷ inside) (plain hs)) (sym grouped) (first.walk (all_left hs ns all) (event.Covers ∷ inside))) refl (x.walk (all_right hs ns all) w);
    nodes = λ i. hs ++ x.nodes i;
  }

  scope_told : {a : Es} {p : Piece} {ns : List ℕ} → Told K a [] p ns → Told K (scope a) [] p ns
  scope_told x = told_behind event.Opens refl tt (told_before event.Closes refl tt (told_onto x))

  end_told : (n : ℕ) → Told K (range_end n) (event.Uncovers ∷ []) (own n) (n ∷ [])
  end_told n = told_onto (told_own n)

  name_told : (n : Named) → Plain K (name_uses n) (named_nodes n)
  name_told n = told_behind (event.Uses n false) refl tt (told_own n.node)

  space_told : (s : VarSpace) → Plain K (space_events s) (var_space_nodes s)
  space_told s = told_seq (name_told s.space) (plain_maybe name_uses named_nodes name_told s.access)

  maybe_used_told : (o : Option Expr) → Plain K (maybe_events used o) (maybe_of expr_nodes o)
  maybe_used_told = plain_maybe used expr_nodes used_told

  var_told : (v : Var) → Plain K (var_uses v) (var_nodes v)
  var_told v =
      told_left (maybe_events space_events v.space) (node_of v.name ∷ maybe_events used v.ty ∷ maybe_events used v.value ∷ [])
      (told_seq (plain_maybe space_events var_space_nodes space_told v.space) (told_seq (named_told v.name) (told_seq (maybe_used_told v.ty) (maybe_used_told v.value))))

  binding_told : (b : Binding) → Plain K (binding_uses b) (binding_nodes b)
  binding_told b = told_left (node_of b.name) (maybe_events used b.ty ∷ used b.value ∷ []) (told_seq (named_told b.name) (told_seq (maybe_used_told b.ty) (used_told b.value)))

  declared_told : {a : Es} {ns : List ℕ} (n : Named) → Contains ns n.node → Plain K a ns → Plain K (a ++ declares n) ns
  declared_told n c x = plain_given (λ all. told_before (event.Declares n false) refl (all n.node c) (told_onto x))

  -- where the name of a declaration stands among its nodes
  first_in : (n : ℕ) (ns : List ℕ) → Contains (n ∷ ns) n
  first_in n ns = Contains-append_left (n ∷ []) ns n (Contains-push [] n)

  behind_in : (hs : List ℕ) (n : ℕ) (ns : List ℕ) → Contains (hs ++ (n ∷ ns)) n
  behind_in hs n ns = Contains-append_right hs (n ∷ ns) n (first_in n ns)

  var_has : (v : Var) → Contains (var_nodes v) v.name.node
  var_has v = behind_in (maybe_of var_space_nodes v.space) v.name.node (maybe_of expr_nodes v.ty ++ maybe_of expr_nodes v.value)

  binding_has : (b : Binding) → Contains (binding_nodes b) b.name.node
  binding_has b = first_in b.name.node (maybe_of expr_nodes b.ty ++ expr_nodes b.value)

  member_has : (m : Member) → Contains (member_nodes m) m.name.node
  member_has m = behind_in (attrs_nodes m.attrs) m.name.node (expr_nodes m.ty ++ m.node ∷ [])

  kind_has : (k : DeclKind) (node : ℕ) → Contains (decl_kind_nodes k ++ node ∷ []) (node_or node (declared_name k))
  kind_has decl.Empty node = Contains-push [] node
  kind_has (decl.Alias name ty) node = first_in name.node (expr_nodes ty ++ node ∷ [])
  kind_has (decl.Const b) node = Contains-append_left (binding_nodes b) (node ∷ []) b.name.node (binding_has b)
  kind_has (decl.ConstAssert condition) node = Contains-push (expr_nodes condition) node
  kind_has (decl.Struct name members trailing end) node = first_in name.node (joined_of member_nodes members ++ node ∷ [])
  kind_has (decl.Var attrs v) node = Contains-append_left (attrs_nodes attrs ++ var_nodes v) (node ∷ []) v.name.node (Contains-append_right (attrs_nodes attrs) (var_nodes v) v.name.node (var_has v))
  kind_has (decl.Override attrs keyword name ty value) node =
      Contains-append_left (attrs_nodes attrs ++ (name.node ∷ (maybe_of expr_nodes ty ++ maybe_of expr_nodes value))) (node ∷ []) name.node
      (behind_in (attrs_nodes attrs) name.node (maybe_of expr_nodes ty ++ maybe_of expr_nodes value))
  kind_has (decl.Fn attrs keyword name params trailing result body) node =
      let others : List ℕ = joined_of member_nodes params ++ (maybe_of result_nodes result ++ block_nodes body) in
      Contains-append_left (attrs_nodes attrs ++ (name.node ∷ others)) (node ∷ []) name.node (behind_in (attrs_nodes attrs) name.node others)

  declared_has : (d : Decl) → Contains (decl_nodes d) (declared_node d)
  declared_has d = kind_has d.kind d.node

  update_told : (u : Update) → Plain K (update_events u) (update_nodes u)
  update_told (update.Assign target at value) = told_seq (used_told target) (used_told value)
  update_told (update.Compound target operator at value) = told_seq (used_told target) (used_told value)
  update_told (update.Phony underscore at value) = used_told value
  update_told (update.Increment target at) = used_told target
  update_told (update.Decrement target at) = used_told target
  update_told (update.Call e) = used_told e

  simple_told : (s : Simple) → Plain K (simple_events s) (simple_nodes s)
  simple_told (simple.Var v) = declared_told v.name (var_has v) (var_told v)
  simple_told (simple.Const b) = declared_told b.name (binding_has b) (binding_told b)
  simple_told (simple.Let b) = declared_told b.name (binding_has b) (binding_told b)
  simple_told (simple.Update u) = update_told u

  selector_told : (s : Selector) → Plain K (selector_events s) (selector_nodes s)
  selector_told (selector.Default place) = told_none []
  selector_told (selector.Value e) = used_told e

  header_told : (i : Option Simple) (c : Option Expr) (u : Option Update) → Plain K (header i c u) (maybe_of simple_nodes i ++ (maybe_of expr_nodes c ++ maybe_of update_nodes u))
  header_told i c u =
      told_left (maybe_events simple_events i) (maybe_events used c ∷ maybe_events update_events u ∷ [])
      (told_seq (plain_maybe simple_events simple_nodes simple_told i) (told_seq (maybe_used_told c) (plain_maybe update_events update_nodes update_told u)))

  -- the body of a loop, to the end of its range
  loop_told : {a c : Es} {p q : Piece} {ns ms : List ℕ} (node : ℕ) → Told K a [] p ns → Told K c [] q ms
      → Told K (event.Opens ∷ event.Loops ∷ (a ++ (c ++ event.LoopEnds ∷ event.Closes ∷ event.Uncovers ∷ range_end node))) (event.Uncovers ∷ range_end node) (both p q) (ns ++ ms)
  loop_told node x y = told_behind event.Opens refl tt (told_behind event.Loops refl tt (told_seq x (told_before event.Closes refl tt (told_before event.LoopEnds refl tt (told_onto y)))))

  for_nodes : (a i c u b n : List ℕ) → a ++ ((i ++ (c ++ u)) ++ (b ++ n)) ≡ (a ++ (i ++ (c ++ (u ++ b)))) ++ n
  for_nodes a i c u b n =
      ap (λ z. a ++ z) (append_assoc i (c ++ u) (b ++ n) ∙ ap (λ z. i ++ z) (append_assoc c u (b ++ n)) ∙ as_four i c u b n) ∙ as_two a (i ++ (c ++ (u ++ b))) n

  module _ (names : List (List ℕ)) where
    attr_told : (a : Attr) → Plain K (attr_events names a) (attr_nodes a)
    attr_told a =
        told_left (attr_name_events a.name) (maybe_events (arguments_events (attr_role names a.name)) a.arguments ∷ lacking (bad_severity names a) ∷ (event.Node a.node ∷ []) ∷ [])
        (told_seq (attr_name_told a.name)
        (told_seq (plain_maybe (arguments_events (attr_role names a.name)) arguments_nodes (λ l. arguments_told (attr_role names a.name) l.items) a.arguments)
        (told_seq (lacking_told (bad_severity names a)) (told_own a.node))))

    attrs_told : (l : List Attr) → Plain K (attrs_events names l) (attrs_nodes l)
    attrs_told = plain_all (attr_events names) attr_nodes attr_told

    few_filters : (l : List Attr) → length (filters_of names l) ≤ length (attrs_nodes l)
    few_filters = few (filter_of names) attr_nodes (λ a. subst (λ z. 1 ≤ length z) (append_assoc (attr_name_nodes a.name) (maybe_of arguments_nodes a.arguments) (a.node ∷ [])) (at_end (attr_name_nodes a.name ++ maybe_of arguments_nodes a.arguments) a.node))

    told_range : {b t : Es} {p : Piece} {ns : List ℕ} (l : List Attr) → Told K b (event.Uncovers ∷ t) p ns → Told K (range names l ++ b) t (behind names l p) (attrs_nodes l ++ ns)
    told_range {b = b} {t = t} {p = p} {ns = ns} l x =
        subst (λ (z : Es). Told K (z ++ b) t (behind names l p) (attrs_nodes l ++ ns))
        (ap (λ (z : Es). attrs_events names l ++ event.Covers ∷ z) (sym (filters_told (filter_of names) l))
        ∙ sym (append_assoc (attrs_events names l) (event.Covers ∷ []) (flat_map (λ a. filter_events (filter_of names a)) l)))
        (covered_told (filters_of names l) (few_filters l) (attrs_told l) x)

    abbrev clause_told_events : Clause → Es
    clause_told_events = fold-Clause Es KindEs Es Es Es Es Es clause_step (kind_step names) arm_step (block_step names) (continuing_step names) otherwise_step stmt_step

    abbrev clause_told_piece : Clause → Piece
    clause_told_piece = fold-Clause Piece KindPiece Piece Piece Piece Piece Piece clause_piece (kind_piece names) arm_piece (block_layer names) (continuing_piece names) otherwise_piece stmt_piece

    abbrev clause_told_nodes : Clause → List ℕ
    clause_told_nodes = fold-Clause (List ℕ) (List ℕ) (List ℕ) (List ℕ) (List ℕ) (List ℕ) (List ℕ) clause_nodes stmt_kind_nodes arm_nodes block_layer_nodes continuing_nodes otherwise_nodes stmt_layer_nodes

    abbrev kind_told_events : StmtKind → KindEs
    kind_told_events = fold-StmtKind Es KindEs Es Es Es Es Es clause_step (kind_step names) arm_step (block_step names) (continuing_step names) otherwise_step stmt_step

    abbrev kind_told_piece : StmtKind → KindPiece
    kind_told_piece = fold-StmtKind Piece KindPiece Piece Piece Piece Piece Piece clause_piece (kind_piece names) arm_piece (block_layer names) (continuing_piece names) otherwise_piece stmt_piece

    abbrev kind_told_nodes : StmtKind → List ℕ
    kind_told_nodes = fold-StmtKind (List ℕ) (List ℕ) (List ℕ) (List ℕ) (List ℕ) (List ℕ) (List ℕ) clause_nodes stmt_kind_nodes arm_nodes block_layer_nodes continuing_nodes otherwise_nodes stmt_layer_nodes

    abbrev arm_told_events : Arm → Es
    arm_told_events = fold-Arm Es KindEs Es Es Es Es Es clause_step (kind_step names) arm_step (block_step names) (continuing_step names) otherwise_step stmt_step

    abbrev arm_told_piece : Arm → Piece
    arm_told_piece = fold-Arm Piece KindPiece Piece Piece Piece Piece Piece clause_piece (kind_piece names) arm_piece (block_layer names) (continuing_piece names) otherwise_piece stmt_piece

    abbrev arm_told_nodes : Arm → List ℕ
    arm_told_nodes = fold-Arm (List ℕ) (List ℕ) (List ℕ) (List ℕ) (List ℕ) (List ℕ) (List ℕ) clause_nodes stmt_kind_nodes arm_nodes block_layer_nodes continuing_nodes otherwise_nodes stmt_layer_nodes

    abbrev block_told_events : Block → Es
    block_told_events = fold-Block Es KindEs Es Es Es Es Es clause_step (kind_step names) arm_step (block_step names) (continuing_step names) otherwise_step stmt_step

    abbrev block_told_piece : Block → Piece
    block_told_piece = fold-Block Piece KindPiece Piece Piece Piece Piece Piece clause_piece (kind_piece names) arm_piece (block_layer names) (continuing_piece names) otherwise_piece stmt_piece

    abbrev block_told_nodes : Block → List ℕ
    block_told_nodes = fold-Block (List ℕ) (List ℕ) (List ℕ) (List ℕ) (List ℕ) (List ℕ) (List ℕ) clause_nodes stmt_kind_nodes arm_nodes block_layer_nodes continuing_nodes otherwise_nodes stmt_layer_nodes

    abbrev continuing_told_events : Continuing → Es
    continuing_told_events = fold-Continuing Es KindEs Es Es Es Es Es clause_step (kind_step names) arm_step (block_step names) (continuing_step names) otherwise_step stmt_step

    abbrev continuing_told_piece : Continuing → Piece
    continuing_told_piece = fold-Continuing Piece KindPiece Piece Piece Piece Piece Piece clause_piece (kind_piece names) arm_piece (block_layer names) (continuing_piece names) otherwise_piece stmt_piece

    abbrev continuing_told_nodes : Continuing → List ℕ
    continuing_told_nodes = fold-Continuing (List ℕ) (List ℕ) (List ℕ) (List ℕ) (List ℕ) (List ℕ) (List ℕ) clause_nodes stmt_kind_nodes arm_nodes block_layer_nodes continuing_nodes otherwise_nodes stmt_layer_nodes

    abbrev otherwise_told_events : Otherwise → Es
    otherwise_told_events = fold-Otherwise Es KindEs Es Es Es Es Es clause_step (kind_step names) arm_step (block_step names) (continuing_step names) otherwise_step stmt_step

    abbrev otherwise_told_piece : Otherwise → Piece
    otherwise_told_piece = fold-Otherwise Piece KindPiece Piece Piece Piece Piece Piece clause_piece (kind_piece names) arm_piece (block_layer names) (continuing_piece names) otherwise_piece stmt_piece

    abbrev otherwise_told_nodes : Otherwise → List ℕ
    otherwise_told_nodes = fold-Otherwise (List ℕ) (List ℕ) (List ℕ) (List ℕ) (List ℕ) (List ℕ) (List ℕ) clause_nodes stmt_kind_nodes arm_nodes block_layer_nodes continuing_nodes otherwise_nodes stmt_layer_nodes

    abbrev stmt_told_events : Stmt → Es
    stmt_told_events = fold-Stmt Es KindEs Es Es Es Es Es clause_step (kind_step names) arm_step (block_step names) (continuing_step names) otherwise_step stmt_step

    abbrev stmt_told_piece : Stmt → Piece
    stmt_told_piece = fold-Stmt Piece KindPiece Piece Piece Piece Piece Piece clause_piece (kind_piece names) arm_piece (block_layer names) (continuing_piece names) otherwise_piece stmt_piece

    abbrev stmt_told_nodes : Stmt → List ℕ
    stmt_told_nodes = fold-Stmt (List ℕ) (List ℕ) (List ℕ) (List ℕ) (List ℕ) (List ℕ) (List ℕ) clause_nodes stmt_kind_nodes arm_nodes block_layer_nodes continuing_nodes otherwise_nodes stmt_layer_nodes

    abbrev IsTold : Es → Piece → List ℕ → Type 0
    IsTold es p ns = Told K es [] p ns

    abbrev IsKindTold : KindEs → KindPiece → List ℕ → Type 0
    IsKindTold es p ns = (place : Place) (node : ℕ) → Told K (es place node) [] (p node) (ns ++ node ∷ [])

    abbrev IsClause : Clause → Type 0
    IsClause x = IsTold (clause_told_events x) (clause_told_piece x) (clause_told_nodes x)

    abbrev IsStmtKind : StmtKind → Type 0
    IsStmtKind x = IsKindTold (kind_told_events x) (kind_told_piece x) (kind_told_nodes x)

    abbrev IsArm : Arm → Type 0
    IsArm x = IsTold (arm_told_events x) (arm_told_piece x) (arm_told_nodes x)

    abbrev IsBlock : Block → Type 0
    IsBlock x = IsTold (block_told_events x) (block_told_piece x) (block_told_nodes x)

    abbrev IsContinuing : Continuing → Type 0
    IsContinuing x = IsTold (continuing_told_events x) (continuing_told_piece x) (continuing_told_nodes x)

    abbrev IsOtherwise : Otherwise → Type 0
    IsOtherwise x = IsTold (otherwise_told_events x) (otherwise_told_piece x) (otherwise_told_nodes x)

    abbrev IsStmt : Stmt → Type 0
    IsStmt x = IsTold (stmt_told_events x) (stmt_told_piece x) (stmt_told_nodes x)

    abbrev LayerClause : Clause-F Clause StmtKind Arm Block Continuing Otherwise Stmt → Type 0
    LayerClause z =
        IsTold (clause_step (map-Clause Clause StmtKind Arm Block Continuing Otherwise Stmt Es KindEs Es Es Es Es Es clause_told_events kind_told_events arm_told_events block_told_events continuing_told_events otherwise_told_events stmt_told_events z))
        (clause_piece (map-Clause Clause StmtKind Arm Block Continuing Otherwise Stmt Piece KindPiece Piece Piece Piece Piece Piece clause_told_piece kind_told_piece arm_told_piece block_told_piece continuing_told_piece otherwise_told_piece stmt_told_piece z))
        (clause_nodes (map-Clause Clause StmtKind Arm Block Continuing Otherwise Stmt (List ℕ) (List ℕ) (List ℕ) (List ℕ) (List ℕ) (List ℕ) (List ℕ) clause_told_nodes kind_told_nodes arm_told_nodes block_told_nodes continuing_told_nodes otherwise_told_nodes stmt_told_nodes z))

    abbrev LayerStmtKind : StmtKind-F Clause StmtKind Arm Block Continuing Otherwise Stmt → Type 0
    LayerStmtKind z =
        IsKindTold ((kind_step names) (map-StmtKind Clause StmtKind Arm Block Continuing Otherwise Stmt Es KindEs Es Es Es Es Es clause_told_events kind_told_events arm_told_events block_told_events continuing_told_events otherwise_told_events stmt_told_events z))
        ((kind_piece names) (map-StmtKind Clause StmtKind Arm Block Continuing Otherwise Stmt Piece KindPiece Piece Piece Piece Piece Piece clause_told_piece kind_told_piece arm_told_piece block_told_piece continuing_told_piece otherwise_told_piece stmt_told_piece z))
        (stmt_kind_nodes (map-StmtKind Clause StmtKind Arm Block Continuing Otherwise Stmt (List ℕ) (List ℕ) (List ℕ) (List ℕ) (List ℕ) (List ℕ) (List ℕ) clause_told_nodes kind_told_nodes arm_told_nodes block_told_nodes continuing_told_nodes otherwise_told_nodes stmt_told_nodes z))

    abbrev LayerArm : Arm-F Clause StmtKind Arm Block Continuing Otherwise Stmt → Type 0
    LayerArm z =
        IsTold (arm_step (map-Arm Clause StmtKind Arm Block Continuing Otherwise Stmt Es KindEs Es Es Es Es Es clause_told_events kind_told_events arm_told_events block_told_events continuing_told_events otherwise_told_events stmt_told_events z))
        (arm_piece (map-Arm Clause StmtKind Arm Block Continuing Otherwise Stmt Piece KindPiece Piece Piece Piece Piece Piece clause_told_piece kind_told_piece arm_told_piece block_told_piece continuing_told_piece otherwise_told_piece stmt_told_piece z))
        (arm_nodes (map-Arm Clause StmtKind Arm Block Continuing Otherwise Stmt (List ℕ) (List ℕ) (List ℕ) (List ℕ) (List ℕ) (List ℕ) (List ℕ) clause_told_nodes kind_told_nodes arm_told_nodes block_told_nodes continuing_told_nodes otherwise_told_nodes stmt_told_nodes z))

    abbrev LayerBlock : Block-F Clause StmtKind Arm Block Continuing Otherwise Stmt → Type 0
    LayerBlock z =
        IsTold ((block_step names) (map-Block Clause StmtKind Arm Block Continuing Otherwise Stmt Es KindEs Es Es Es Es Es clause_told_events kind_told_events arm_told_events block_told_events continuing_told_events otherwise_told_events stmt_told_events z))
        ((block_layer names) (map-Block Clause StmtKind Arm Block Continuing Otherwise Stmt Piece KindPiece Piece Piece Piece Piece Piece clause_told_piece kind_told_piece arm_told_piece block_told_piece continuing_told_piece otherwise_told_piece stmt_told_piece z))
        (block_layer_nodes (map-Block Clause StmtKind Arm Block Continuing Otherwise Stmt (List ℕ) (List ℕ) (List ℕ) (List ℕ) (List ℕ) (List ℕ) (List ℕ) clause_told_nodes kind_told_nodes arm_told_nodes block_told_nodes continuing_told_nodes otherwise_told_nodes stmt_told_nodes z))

    abbrev LayerContinuing : Continuing-F Clause StmtKind Arm Block Continuing Otherwise Stmt → Type 0
    LayerContinuing z =
        IsTold ((continuing_step names) (map-Continuing Clause StmtKind Arm Block Continuing Otherwise Stmt Es KindEs Es Es Es Es Es clause_told_events kind_told_events arm_told_events block_told_events continuing_told_events otherwise_told_events stmt_told_events z))
        ((continuing_piece names) (map-Continuing Clause StmtKind Arm Block Continuing Otherwise Stmt Piece KindPiece Piece Piece Piece Piece Piece clause_told_piece kind_told_piece arm_told_piece block_told_piece continuing_told_piece otherwise_told_piece stmt_told_piece z))
        (continuing_nodes (map-Continuing Clause StmtKind Arm Block Continuing Otherwise Stmt (List ℕ) (List ℕ) (List ℕ) (List ℕ) (List ℕ) (List ℕ) (List ℕ) clause_told_nodes kind_told_nodes arm_told_nodes block_told_nodes continuing_told_nodes otherwise_told_nodes stmt_told_nodes z))

    abbrev LayerOtherwise : Otherwise-F Clause StmtKind Arm Block Continuing Otherwise Stmt → Type 0
    LayerOtherwise z =
        IsTold (otherwise_step (map-Otherwise Clause StmtKind Arm Block Continuing Otherwise Stmt Es KindEs Es Es Es Es Es clause_told_events kind_told_events arm_told_events block_told_events continuing_told_events otherwise_told_events stmt_told_events z))
        (otherwise_piece (map-Otherwise Clause StmtKind Arm Block Continuing Otherwise Stmt Piece KindPiece Piece Piece Piece Piece Piece clause_told_piece kind_told_piece arm_told_piece block_told_piece continuing_told_piece otherwise_told_piece stmt_told_piece z))
        (otherwise_nodes (map-Otherwise Clause StmtKind Arm Block Continuing Otherwise Stmt (List ℕ) (List ℕ) (List ℕ) (List ℕ) (List ℕ) (List ℕ) (List ℕ) clause_told_nodes kind_told_nodes arm_told_nodes block_told_nodes continuing_told_nodes otherwise_told_nodes stmt_told_nodes z))

    abbrev LayerStmt : Stmt-F Clause StmtKind Arm Block Continuing Otherwise Stmt → Type 0
    LayerStmt z =
        IsTold (stmt_step (map-Stmt Clause StmtKind Arm Block Continuing Otherwise Stmt Es KindEs Es Es Es Es Es clause_told_events kind_told_events arm_told_events block_told_events continuing_told_events otherwise_told_events stmt_told_events z))
        (stmt_piece (map-Stmt Clause StmtKind Arm Block Continuing Otherwise Stmt Piece KindPiece Piece Piece Piece Piece Piece clause_told_piece kind_told_piece arm_told_piece block_told_piece continuing_told_piece otherwise_told_piece stmt_told_piece z))
        (stmt_layer_nodes (map-Stmt Clause StmtKind Arm Block Continuing Otherwise Stmt (List ℕ) (List ℕ) (List ℕ) (List ℕ) (List ℕ) (List ℕ) (List ℕ) clause_told_nodes kind_told_nodes arm_told_nodes block_told_nodes continuing_told_nodes otherwise_told_nodes stmt_told_nodes z))

    abbrev GoodClause : Type 0
    GoodClause = (x : Clause) × IsClause x

    abbrev GoodStmtKind : Type 0
    GoodStmtKind = (x : StmtKind) × IsStmtKind x

    abbrev GoodArm : Type 0
    GoodArm = (x : Arm) × IsArm x

    abbrev GoodBlock : Type 0
    GoodBlock = (x : Block) × IsBlock x

    abbrev GoodContinuing : Type 0
    GoodContinuing = (x : Continuing) × IsContinuing x

    abbrev GoodOtherwise : Type 0
    GoodOtherwise = (x : Otherwise) × IsOtherwise x

    abbrev GoodStmt : Type 0
    GoodStmt = (x : Stmt) × IsStmt x

    clause_case : (y : Clause-F GoodClause GoodStmtKind GoodArm GoodBlock GoodContinuing GoodOtherwise GoodStmt) → LayerClause (map-Clause GoodClause GoodStmtKind GoodArm GoodBlock GoodContinuing GoodOtherwise GoodStmt Clause StmtKind Arm Block Continuing Otherwise Stmt (λ x. x.0) (λ x. x.0) (λ x. x.0) (λ x. x.0) (λ x. x.0) (λ x. x.0) (λ x. x.0) y)
    clause_case (open_stmt.Case keyword selectors trailing colon body) = told_seq (plain_all selector_events selector_nodes selector_told selectors) body.1
    clause_case (open_stmt.Default keyword colon body) = body.1

    stmt_kind_case : (y : StmtKind-F GoodClause GoodStmtKind GoodArm GoodBlock GoodContinuing GoodOtherwise GoodStmt) → LayerStmtKind (map-StmtKind GoodClause GoodStmtKind GoodArm GoodBlock GoodContinuing GoodOtherwise GoodStmt Clause StmtKind Arm Block Continuing Otherwise Stmt (λ x. x.0) (λ x. x.0) (λ x. x.0) (λ x. x.0) (λ x. x.0) (λ x. x.0) (λ x. x.0) y)
    stmt_kind_case open_stmt.Empty place node = told_own node
    stmt_kind_case (open_stmt.Block block) place node = told_seq block.1 (told_own node)
    stmt_kind_case (open_stmt.Simple s) place node = told_seq (simple_told s) (told_own node)
    stmt_kind_case (open_stmt.Return value) place node = told_seq (maybe_used_told value) (told_own node)
    stmt_kind_case open_stmt.Break place node = told_own node
    stmt_kind_case open_stmt.Continue place node = told_behind (event.Continues place) refl tt (told_own node)
    stmt_kind_case open_stmt.Discard place node = told_own node
    stmt_kind_case (open_stmt.ConstAssert condition) place node = told_seq (used_told condition) (told_own node)
    stmt_kind_case (open_stmt.If attrs keyword condition first arms None) place node =
        told_as (as_five (attrs_nodes attrs) (expr_nodes condition) (block_told_nodes first.0) (joined (map arm_told_nodes (map (λ x. x.0) arms))) [] (node ∷ []))
        (told_left (range names attrs) (used condition ∷ block_told_events first.0 ∷ all_events (map arm_told_events (map (λ x. x.0) arms)) ∷ [] ∷ range_end node ∷ [])
        (told_range attrs (told_seq (used_told condition) (told_seq first.1 (told_seq (told_list arm_told_events arm_told_piece arm_told_nodes arms) (told_seq (told_none []) (end_told node)))))))
    stmt_kind_case (open_stmt.If attrs keyword condition first arms (Some otherwise)) place node =
        told_as (as_five (attrs_nodes attrs) (expr_nodes condition) (block_told_nodes first.0) (joined (map arm_told_nodes (map (λ x. x.0) arms))) (otherwise_told_nodes otherwise.0) (node ∷ []))
        (told_left (range names attrs) (used condition ∷ block_told_events first.0 ∷ all_events (map arm_told_events (map (λ x. x.0) arms)) ∷ otherwise_told_events otherwise.0 ∷ range_end node ∷ [])
        (told_range attrs (told_seq (used_told condition) (told_seq first.1 (told_seq (told_list arm_told_events arm_told_piece arm_told_nodes arms) (told_seq otherwise.1 (end_told node)))))))
    stmt_kind_case (open_stmt.Switch attrs keyword chosen inner clauses end) place node =
        told_as (as_three (attrs_nodes attrs) (expr_nodes chosen) (attrs_nodes inner ++ joined (map clause_told_nodes (map (λ x. x.0) clauses))) (node ∷ []))
        (told_left (range names attrs) (used chosen ∷ range names inner ∷ all_events (map clause_told_events (map (λ x. x.0) clauses)) ∷ (event.Uncovers ∷ []) ∷ range_end node ∷ [])
        (told_range attrs (told_seq (used_told chosen) (told_chain (told_range inner (told_onto (told_list clause_told_events clause_told_piece clause_told_nodes clauses))) (end_told node)))))
    stmt_kind_case (open_stmt.Loop attrs keyword inner body None end) place node =
        told_as (as_two (attrs_nodes attrs) (attrs_nodes inner ++ (joined (map stmt_told_nodes (map (λ x. x.0) body)) ++ [])) (node ∷ []))
        (told_left (range names attrs)
        (range names inner ∷ (event.Opens ∷ []) ∷ (event.Loops ∷ []) ∷ all_events (map stmt_told_events (map (λ x. x.0) body)) ∷ [] ∷ (event.LoopEnds ∷ []) ∷ (event.Closes ∷ []) ∷ (event.Uncovers ∷ []) ∷ range_end node ∷ [])
        (told_range attrs (told_chain (told_range inner (loop_told node (told_list stmt_told_events stmt_told_piece stmt_told_nodes body) (told_none []))) (end_told node))))
    stmt_kind_case (open_stmt.Loop attrs keyword inner body (Some continuing) end) place node =
        told_as (as_two (attrs_nodes attrs) (attrs_nodes inner ++ (joined (map stmt_told_nodes (map (λ x. x.0) body)) ++ continuing_told_nodes continuing.0)) (node ∷ []))
        (told_left (range names attrs)
        (range names inner ∷ (event.Opens ∷ []) ∷ (event.Loops ∷ []) ∷ all_events (map stmt_told_events (map (λ x. x.0) body)) ∷ continuing_told_events continuing.0 ∷ (event.LoopEnds ∷ []) ∷ (event.Closes ∷ []) ∷ (event.Uncovers ∷ []) ∷ range_end node ∷ [])
        (told_range attrs (told_chain (told_range inner (loop_told node (told_list stmt_told_events stmt_told_piece stmt_told_nodes body) continuing.1)) (end_told node))))
    stmt_kind_case (open_stmt.For attrs keyword initial condition changed body) place node =
        told_as (for_nodes (attrs_nodes attrs) (maybe_of simple_nodes initial) (maybe_of expr_nodes condition) (maybe_of update_nodes changed) (block_told_nodes body.0) (node ∷ []))
        (told_left (range names attrs)
        ((event.Opens ∷ []) ∷ (event.Loops ∷ []) ∷ header initial condition changed ∷ block_told_events body.0 ∷ (event.LoopEnds ∷ []) ∷ (event.Closes ∷ []) ∷ range_end node ∷ [])
        (told_range attrs (told_behind event.Opens refl tt (told_behind event.Loops refl tt (told_seq (header_told initial condition changed) (told_seq body.1 (told_behind event.LoopEnds refl tt (told_behind event.Closes refl tt (end_told node)))))))))
    stmt_kind_case (open_stmt.While attrs keyword condition body) place node =
        told_as (as_three (attrs_nodes attrs) (expr_nodes condition) (block_told_nodes body.0) (node ∷ []))
        (told_left (range names attrs) ((event.Loops ∷ []) ∷ used condition ∷ block_told_events body.0 ∷ (event.LoopEnds ∷ []) ∷ range_end node ∷ [])
        (told_range attrs (told_behind event.Loops refl tt (told_seq (used_told condition) (told_seq body.1 (told_behind event.LoopEnds refl tt (end_told node)))))))

    arm_case : (y : Arm-F GoodClause GoodStmtKind GoodArm GoodBlock GoodContinuing GoodOtherwise GoodStmt) → LayerArm (map-Arm GoodClause GoodStmtKind GoodArm GoodBlock GoodContinuing GoodOtherwise GoodStmt Clause StmtKind Arm Block Continuing Otherwise Stmt (λ x. x.0) (λ x. x.0) (λ x. x.0) (λ x. x.0) (λ x. x.0) (λ x. x.0) (λ x. x.0) y)
    arm_case y = told_seq (used_told y.condition) y.body.1

    block_case : (y : Block-F GoodClause GoodStmtKind GoodArm GoodBlock GoodContinuing GoodOtherwise GoodStmt) → LayerBlock (map-Block GoodClause GoodStmtKind GoodArm GoodBlock GoodContinuing GoodOtherwise GoodStmt Clause StmtKind Arm Block Continuing Otherwise Stmt (λ x. x.0) (λ x. x.0) (λ x. x.0) (λ x. x.0) (λ x. x.0) (λ x. x.0) (λ x. x.0) y)
    block_case y =
        told_left (range names y.attrs) (scope (all_events (map stmt_told_events (map (λ x. x.0) y.body))) ∷ range_end y.node ∷ [])
        (told_range y.attrs (told_seq (scope_told (told_list stmt_told_events stmt_told_piece stmt_told_nodes y.body)) (end_told y.node)))

    continuing_case : (y : Continuing-F GoodClause GoodStmtKind GoodArm GoodBlock GoodContinuing GoodOtherwise GoodStmt) → LayerContinuing (map-Continuing GoodClause GoodStmtKind GoodArm GoodBlock GoodContinuing GoodOtherwise GoodStmt Clause StmtKind Arm Block Continuing Otherwise Stmt (λ x. x.0) (λ x. x.0) (λ x. x.0) (λ x. x.0) (λ x. x.0) (λ x. x.0) (λ x. x.0) y)
    continuing_case y =
        told_left (range names y.attrs)
        ((event.Turns ∷ []) ∷ scope (all_events (map stmt_told_events (map (λ x. x.0) y.body)) ++ maybe_events leave_events y.leave) ∷ (event.Uncovers ∷ []) ∷ [])
        (told_range y.attrs (told_behind event.Turns refl tt (told_onto (scope_told (told_seq (told_list stmt_told_events stmt_told_piece stmt_told_nodes y.body) (plain_maybe leave_events break_if_nodes (λ b. used_told b.condition) y.leave))))))

    otherwise_case : (y : Otherwise-F GoodClause GoodStmtKind GoodArm GoodBlock GoodContinuing GoodOtherwise GoodStmt) → LayerOtherwise (map-Otherwise GoodClause GoodStmtKind GoodArm GoodBlock GoodContinuing GoodOtherwise GoodStmt Clause StmtKind Arm Block Continuing Otherwise Stmt (λ x. x.0) (λ x. x.0) (λ x. x.0) (λ x. x.0) (λ x. x.0) (λ x. x.0) (λ x. x.0) y)
    otherwise_case y = y.body.1

    stmt_case : (y : Stmt-F GoodClause GoodStmtKind GoodArm GoodBlock GoodContinuing GoodOtherwise GoodStmt) → LayerStmt (map-Stmt GoodClause GoodStmtKind GoodArm GoodBlock GoodContinuing GoodOtherwise GoodStmt Clause StmtKind Arm Block Continuing Otherwise Stmt (λ x. x.0) (λ x. x.0) (λ x. x.0) (λ x. x.0) (λ x. x.0) (λ x. x.0) (λ x. x.0) y)
    stmt_case y = y.kind.1 y.place y.node

    stmt_told : (x : Stmt) → IsStmt x
    stmt_told =
        ind-Stmt IsClause IsStmtKind IsArm IsBlock IsContinuing IsOtherwise IsStmt
        (λ x y is. by_equal IsTold (fold-roll-Clause _ _ _ _ _ _ _ clause_step (kind_step names) arm_step (block_step names) (continuing_step names) otherwise_step stmt_step x) (fold-roll-Clause _ _ _ _ _ _ _ clause_piece (kind_piece names) arm_piece (block_layer names) (continuing_piece names) otherwise_piece stmt_piece x) (fold-roll-Clause _ _ _ _ _ _ _ clause_nodes stmt_kind_nodes arm_nodes block_layer_nodes continuing_nodes otherwise_nodes stmt_layer_nodes x) (subst LayerClause is (clause_case y)))
        (λ x y is. by_equal IsKindTold (fold-roll-StmtKind _ _ _ _ _ _ _ clause_step (kind_step names) arm_step (block_step names) (continuing_step names) otherwise_step stmt_step x) (fold-roll-StmtKind _ _ _ _ _ _ _ clause_piece (kind_piece names) arm_piece (block_layer names) (continuing_piece names) otherwise_piece stmt_piece x) (fold-roll-StmtKind _ _ _ _ _ _ _ clause_nodes stmt_kind_nodes arm_nodes block_layer_nodes continuing_nodes otherwise_nodes stmt_layer_nodes x) (subst LayerStmtKind is (stmt_kind_case y)))
        (λ x y is. by_equal IsTold (fold-roll-Arm _ _ _ _ _ _ _ clause_step (kind_step names) arm_step (block_step names) (continuing_step names) otherwise_step stmt_step x) (fold-roll-Arm _ _ _ _ _ _ _ clause_piece (kind_piece names) arm_piece (block_layer names) (continuing_piece names) otherwise_piece stmt_piece x) (fold-roll-Arm _ _ _ _ _ _ _ clause_nodes stmt_kind_nodes arm_nodes block_layer_nodes continuing_nodes otherwise_nodes stmt_layer_nodes x) (subst LayerArm is (arm_case y)))
        (λ x y is. by_equal IsTold (fold-roll-Block _ _ _ _ _ _ _ clause_step (kind_step names) arm_step (block_step names) (continuing_step names) otherwise_step stmt_step x) (fold-roll-Block _ _ _ _ _ _ _ clause_piece (kind_piece names) arm_piece (block_layer names) (continuing_piece names) otherwise_piece stmt_piece x) (fold-roll-Block _ _ _ _ _ _ _ clause_nodes stmt_kind_nodes arm_nodes block_layer_nodes continuing_nodes otherwise_nodes stmt_layer_nodes x) (subst LayerBlock is (block_case y)))
        (λ x y is. by_equal IsTold (fold-roll-Continuing _ _ _ _ _ _ _ clause_step (kind_step names) arm_step (block_step names) (continuing_step names) otherwise_step stmt_step x) (fold-roll-Continuing _ _ _ _ _ _ _ clause_piece (kind_piece names) arm_piece (block_layer names) (continuing_piece names) otherwise_piece stmt_piece x) (fold-roll-Continuing _ _ _ _ _ _ _ clause_nodes stmt_kind_nodes arm_nodes block_layer_nodes continuing_nodes otherwise_nodes stmt_layer_nodes x) (subst LayerContinuing is (continuing_case y)))
        (λ x y is. by_equal IsTold (fold-roll-Otherwise _ _ _ _ _ _ _ clause_step (kind_step names) arm_step (block_step names) (continuing_step names) otherwise_step stmt_step x) (fold-roll-Otherwise _ _ _ _ _ _ _ clause_piece (kind_piece names) arm_piece (block_layer names) (continuing_piece names) otherwise_piece stmt_piece x) (fold-roll-Otherwise _ _ _ _ _ _ _ clause_nodes stmt_kind_nodes arm_nodes block_layer_nodes continuing_nodes otherwise_nodes stmt_layer_nodes x) (subst LayerOtherwise is (otherwise_case y)))
        (λ x y is. by_equal IsTold (fold-roll-Stmt _ _ _ _ _ _ _ clause_step (kind_step names) arm_step (block_step names) (continuing_step names) otherwise_step stmt_step x) (fold-roll-Stmt _ _ _ _ _ _ _ clause_piece (kind_piece names) arm_piece (block_layer names) (continuing_piece names) otherwise_piece stmt_piece x) (fold-roll-Stmt _ _ _ _ _ _ _ clause_nodes stmt_kind_nodes arm_nodes block_layer_nodes continuing_nodes otherwise_nodes stmt_layer_nodes x) (subst LayerStmt is (stmt_case y)))

    -- the body of a function
    body_told : (b : Block) → Told K (body_events names b) [] (block_piece names b) (block_told_nodes b)
    body_told b =
        by_equal (λ (es : Es) (p : Piece) (ns : List ℕ). Told K es [] p ns) refl (fold_out-Block _ _ _ _ _ _ _ clause_piece (kind_piece names) arm_piece (block_layer names) (continuing_piece names) otherwise_piece stmt_piece b) (fold_out-Block _ _ _ _ _ _ _ clause_nodes stmt_kind_nodes arm_nodes block_layer_nodes continuing_nodes otherwise_nodes stmt_layer_nodes b)
        (told_left (range names (out-Block b).attrs) (all_events (map (stmt_events names) (out-Block b).body) ∷ range_end (out-Block b).node ∷ [])
        (told_range (out-Block b).attrs (told_seq (stmts_told (out-Block b).body) (end_told (out-Block b).node))))
      where
        stmts_told : (l : List Stmt) → Told K (all_events (map (stmt_events names) l)) [] (row (map stmt_told_piece l)) (joined (map stmt_told_nodes l))
        stmts_told [] = told_none []
        stmts_told (x ∷ l) = told_seq (stmt_told x) (stmts_told l)

    -- ---- declarations and directives

    member_told : (m : Member) → Plain K (member_uses names m) (member_nodes m)
    member_told m =
        told_left (attrs_events names m.attrs) (node_of m.name ∷ used m.ty ∷ (event.Node m.node ∷ []) ∷ [])
        (told_seq (attrs_told m.attrs) (told_seq (named_told m.name) (told_seq (used_told m.ty) (told_own m.node))))

    param_told : (m : Member) → Plain K (param_events names m) (member_nodes m)
    param_told m = declared_told m.name (member_has m) (member_told m)

    result_told : (r : FnResult) → Plain K (result_events names r) (result_nodes r)
    result_told r = told_seq (attrs_told r.attrs) (used_told r.ty)

    members_told : (l : List Member) → AllKnown K (joined_of member_nodes l) → Plain K (flat_map member_declares l) []
    members_told [] all = told_none []
    members_told (m ∷ l) all =
        told_seq (told_other (event.Declares m.name false) refl (all m.name.node (Contains-append_left (member_nodes m) (joined_of member_nodes l) m.name.node (member_has m))))
        (members_told l (all_right (member_nodes m) (joined_of member_nodes l) all))

    decl_kind_told : (k : DeclKind) (node : ℕ) → Told K (decl_kind_events names k node) [] (decl_kind_piece names k node) (decl_kind_nodes k ++ node ∷ [])
    decl_kind_told decl.Empty node = told_own node
    decl_kind_told (decl.Alias name ty) node = plain_as (as_two (named_nodes name) (expr_nodes ty) (node ∷ [])) (told_left (node_of name) (used ty ∷ (event.Node node ∷ []) ∷ []) (told_seq (named_told name) (told_seq (used_told ty) (told_own node))))
    decl_kind_told (decl.Const b) node = told_seq (binding_told b) (told_own node)
    decl_kind_told (decl.ConstAssert condition) node = told_seq (used_told condition) (told_own node)
    decl_kind_told (decl.Struct name members trailing end) node =
        plain_given
        (λ all.
        let of_members : AllKnown K (joined_of member_nodes members) = all_right (named_nodes name) (joined_of member_nodes members) (all_left (named_nodes name ++ joined_of member_nodes members) (node ∷ []) all) in
        plain_as (as_two (named_nodes name) (joined_of member_nodes members) (node ∷ []))
        (told_left (node_of name) (flat_map (member_uses names) members ∷ scope (flat_map member_declares members) ∷ (event.Node node ∷ []) ∷ [])
        (told_seq (named_told name) (told_seq (plain_all (member_uses names) member_nodes member_told members)
        (told_seq (scope_told (members_told members of_members)) (told_own node))))))
    decl_kind_told (decl.Var attrs v) node = plain_as (as_two (attrs_nodes attrs) (var_nodes v) (node ∷ [])) (told_left (attrs_events names attrs) (var_uses v ∷ (event.Node node ∷ []) ∷ []) (told_seq (attrs_told attrs) (told_seq (var_told v) (told_own node))))
    decl_kind_told (decl.Override attrs keyword name ty value) node =
        plain_as (as_four (attrs_nodes attrs) (named_nodes name) (maybe_of expr_nodes ty) (maybe_of expr_nodes value) (node ∷ []))
        (told_left (attrs_events names attrs) (node_of name ∷ maybe_events used ty ∷ maybe_events used value ∷ (event.Node node ∷ []) ∷ [])
        (told_seq (attrs_told attrs) (told_seq (named_told name) (told_seq (maybe_used_told ty) (told_seq (maybe_used_told value) (told_own node))))))
    decl_kind_told (decl.Fn attrs keyword name params trailing result body) node =
        told_as (as_five (attrs_nodes attrs) (named_nodes name) (joined_of member_nodes params) (maybe_of result_nodes result) (block_told_nodes body) (node ∷ []))
        (told_left (range names attrs)
        (node_of name ∷ (event.Opens ∷ []) ∷ flat_map (param_events names) params ∷ maybe_events (result_events names) result ∷ body_events names body ∷ (event.Closes ∷ []) ∷ range_end node ∷ [])
        (told_range attrs (told_seq (named_told name) (told_behind event.Opens refl tt (told_seq (plain_all (param_events names) member_nodes param_told params)
        (told_seq (plain_maybe (result_events names) result_nodes result_told result) (told_seq (body_told body) (told_behind event.Closes refl tt (end_told node)))))))))

    decl_told : (d : Decl) → Told K (decl_events names d) [] (decl_piece names d) (decl_nodes d)
    decl_told d =
        let x : Told K (decl_kind_events names d.kind d.node) [] (decl_piece names d) (decl_nodes d) = decl_kind_told d.kind d.node in
        record { walk = λ all. (told_behind (event.Enters (declared_node d)) refl (all (declared_node d) (declared_has d)) x).walk all; nodes = x.nodes }

    heading_told : (entry : Bool) (o : Option Named) (node : ℕ) → K (node_or node o) → Plain K (heading entry o) []
    heading_told entry None node k = told_none []
    heading_told entry (Some name) node k = told_other (event.Declares name entry) refl k

    heads_told : (l : List Decl) → AllKnown K (joined_of decl_nodes l) → Plain K (flat_map (head_events names) l) []
    heads_told [] all = told_none []
    heads_told (d ∷ l) all =
        told_seq
        (heading_told (is_entry names d.kind) (declared_name d.kind) d.node (all (declared_node d) (Contains-append_left (decl_nodes d) (joined_of decl_nodes l) (declared_node d) (declared_has d))))
        (heads_told l (all_right (decl_nodes d) (joined_of decl_nodes l) all))

    directive_told : (d : Directive) → Plain K (directive_events names d) (directive_nodes d)
    directive_told d =
        told_left (lacking (bad_directive names d.kind)) (directive_kind_events d.kind ∷ (event.Node d.node ∷ []) ∷ [])
        (told_seq (lacking_told (bad_directive names d.kind)) (told_seq (directive_kind_told d.kind) (told_own d.node)))
      where
        rule_told : (r : Rule) → Plain K (rule_events r) (rule_nodes r)
        rule_told (rule.Plain name) = named_told name
        rule_told (rule.Scoped scope_name dot name) = told_seq (named_told scope_name) (named_told name)

        directive_kind_told : (k : DirectiveKind) → Plain K (directive_kind_events k) (directive_kind_nodes k)
        directive_kind_told (directive.Diagnostic chosen r trailing) = told_seq (named_told chosen) (rule_told r)
        directive_kind_told (directive.Requires listed_names trailing) = plain_all node_of named_nodes named_told listed_names
        directive_kind_told (directive.Enable listed_names trailing) = plain_all node_of named_nodes named_told listed_names

  -- the range of the module ends with it
  pub tree_told : (t : Tree) → AllKnown K (tree_nodes t) → Told K (tree_events t ++ event.Uncovers ∷ []) [] (tree_piece t) (tree_nodes t)
  tree_told t all = subst (λ (z : Es). Told K z [] (tree_piece t) (tree_nodes t)) grouped whole
    where
      heads : Es
      heads = flat_map (head_events t.names) t.decls

      decls : Es
      decls = flat_map (decl_events t.names) t.decls

      begun : Es → Es
      begun fs = flat_map (directive_events t.names) t.directives ++ event.Covers ∷ fs

      fs : List Filter
      fs = module_filters t.names t.directives

      inside : Told K ((heads ++ decls) ++ event.Uncovers ∷ []) (event.Uncovers ∷ []) (row (map (decl_piece t.names) t.decls)) (joined_of decl_nodes t.decls)
      inside =
          told_onto
          (told_seq (heads_told t.names t.decls (all_right (joined_of directive_nodes t.directives) (joined_of decl_nodes t.decls) all))
          (told_all (decl_events t.names) (decl_piece t.names) decl_nodes (decl_told t.names) t.decls))

      whole : Told K (begun (map event.Filters fs) ++ ((heads ++ decls) ++ event.Uncovers ∷ [])) [] (tree_piece t) (tree_nodes t)
      whole =
          covered_told fs (few (directive_filter t.names) directive_nodes (λ d. at_end (directive_kind_nodes d.kind) d.node) t.directives)
          (plain_all (directive_events t.names) directive_nodes (directive_told t.names) t.directives) inside

      filter_row : Es
      filter_row = flat_map (λ d. filter_events (directive_filter t.names d)) t.directives

      grouped : begun (map event.Filters fs) ++ ((heads ++ decls) ++ event.Uncovers ∷ []) ≡ tree_events t ++ event.Uncovers ∷ []
      grouped =
          ap (λ (z : Es). begun z ++ ((heads ++ decls) ++ event.Uncovers ∷ [])) (sym (filters_told (directive_filter t.names) t.directives))
          ∙ ap (λ (z : Es). z ++ ((heads ++ decls) ++ event.Uncovers ∷ [])) (sym (append_assoc (flat_map (directive_events t.names) t.directives) (event.Covers ∷ []) filter_row))
          ∙ sym (append_assoc (directives_events t.names t.directives) (heads ++ decls) (event.Uncovers ∷ []))
          ∙ ap (λ (z : Es). z ++ event.Uncovers ∷ []) (sym (append_assoc (directives_events t.names t.directives) heads decls))

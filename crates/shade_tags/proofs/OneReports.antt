-- The used tags of a module, with their paths and reasons, are one list.
use Rattle.std.proofs.Common.{◌≡◌, refl, sym, ap, ap₂, subst, ◌∙◌, ℕ, ◌<◌, ◌⊎◌, inl, inr, List, [], ◌∷◌, length, Option, None, Some, arith}
use Rattle.std.specs.Prelude.{slice_get}
use Rattle.std.specs.declared.cmp.Ordering.{Ordering}
use Rattle.std.specs.declared.cmp.Ordering.TheVariants.{Less, Equal, Greater}
use Rattle.std.specs.Ordering.{ordering_reverse, is_eq}
use Rattle.std.proofs.lemmas.Bool.{cases_lt}
use Rattle.shade_core.specs.declared.module.CoreFunction.{CoreFunction}
use Rattle.shade_core.specs.declared.module.CoreModule.{CoreModule}
use Rattle.shade_core.specs.Code.{Code, call, code_of}
use Rattle.shade_graph.specs.declared.node.Node.{Node}
use Rattle.shade_graph.specs.declared.node.Node.TheVariants.{Start}
use Rattle.shade_graph.specs.declared.node.Tag.{Tag}
use Rattle.shade_graph.specs.declared.node.Via.{Via}
use Rattle.shade_graph.specs.Graph.{Among}
use Rattle.shade_graph.specs.Order.{NodeLess}
use Rattle.shade_graph.proofs.NodeLaws.{node_cmp, node_total, node_ties, node_same, less_is}
use Rattle.shade_graph.proofs.OrderLaws.{apart}
use Rattle.shade_reach.specs.Paths.{IsLeastPath, InOrder, NotAfter}
use Rattle.shade_uniformity.specs.Structure.{Analysed}
use Rattle.shade_uniformity.specs.Edges.{Edge, IsVia, TagLess}
use Rattle.shade_verdict.specs.declared.violation.PathStep.{PathStep}
use Rattle.shade_verdict.specs.Violations.{plain_step}
use Rattle.shade_tags.specs.declared.used.UsedTag.{UsedTag}
use Rattle.shade_tags.specs.Violations.{IsReason, by_rule, by_call, AreReasons, IsTold}
use Rattle.shade_tags.specs.Used.{ShowsTag, UsedLess, AreUsed}
use Rattle.shade_tags.specs.Laws.{CallsDiffer, OneUsed}
use Rattle.shade_tags.proofs.OneTables.{tag_clash, lists_one}

-- ---- what neither comes before the other is the same

same_number : (a b : ℕ) → (a < b → ⊥) → (b < a → ⊥) → a ≡ b
same_number a b f g = elim (cases_lt a b) [ inl l ↦ absurd (f l) | inr up ↦ elim (cases_lt b a) [ inl l ↦ absurd (g l) | inr down ↦ omega (arith, up, down) ] ]

turned : (o : Ordering) → Greater ≡ ordering_reverse o → o ≡ Less
turned Less e = refl
turned Equal e = cc
turned Greater e = cc

node_alike : (u v : Node) → (NodeLess u v → ⊥) → (NodeLess v u → ⊥) → u ≡ v
node_alike u v f g = by_order (node_cmp u v) refl where
  by_order : (o : Ordering) → node_cmp u v ≡ o → u ≡ v
  by_order Less e = absurd (f (less_is u v e))
  by_order Equal e = node_same u v (node_ties u v ∙ ap is_eq e)
  by_order Greater e = absurd (g (less_is v u (turned (node_cmp v u) (sym e ∙ node_total.antisymm u v))))

tag_alike : (s t : Tag) → (TagLess s t → ⊥) → (TagLess t s → ⊥) → s ≡ t
tag_alike s t f g =
    let from : s.source ≡ t.source = node_alike s.source t.source (λ l. f (inl l)) (λ l. g (inl l)) in
    let to : s.target ≡ t.target = node_alike s.target t.target (λ l. f (inr (from, l))) (λ l. g (inr (sym from, l))) in
    λ i. record { source = from i; target = to i }

-- ---- the least path is one

below_clash : (a b : ℕ) → a < b → b < a → ⊥
below_clash a b x y = omega arith

in_order_one : (xs ys : List Node) → InOrder NodeLess xs ys → InOrder NodeLess ys xs → xs ≡ ys
in_order_one [] [] a b = refl
in_order_one [] (y ∷ ys) a b = absurd b
in_order_one (x ∷ xs) [] a b = absurd a
in_order_one (x ∷ xs) (y ∷ ys) (inl l) (inl m) = absurd (apart x y l m)
in_order_one (x ∷ xs) (y ∷ ys) (inl l) (inr e) = let own : NodeLess x x = subst (λ (z : Node). NodeLess x z) e.0 l in absurd (apart x x own own)
in_order_one (x ∷ xs) (y ∷ ys) (inr e) (inl m) = let own : NodeLess y y = subst (λ (z : Node). NodeLess y z) e.0 m in absurd (apart y y own own)
in_order_one (x ∷ xs) (y ∷ ys) (inr e) (inr f) = ap₂ (λ z zs. z ∷ zs) e.0 (in_order_one xs ys e.1 f.1)

not_after_one : (xs ys : List Node) → NotAfter NodeLess xs ys → NotAfter NodeLess ys xs → xs ≡ ys
not_after_one xs ys (inl l) (inl m) = absurd (below_clash (length xs) (length ys) l m)
not_after_one xs ys (inl l) (inr e) = let same : length ys ≡ length xs = e.0 in absurd (omega arith)
not_after_one xs ys (inr e) (inl m) = let same : length xs ≡ length ys = e.0 in absurd (omega arith)
not_after_one xs ys (inr e) (inr f) = in_order_one xs ys e.1 f.1

least_one : (E : Node → Node → Type 0) (from to : Node) (p q : List Node) → IsLeastPath E NodeLess from to p → IsLeastPath E NodeLess from to q → p ≡ q
least_one E from to [] q a b = absurd a
least_one E from to (x ∷ xs) [] a b = absurd b
least_one E from to (x ∷ xs) (y ∷ ys) a b = ap₂ (λ z zs. z ∷ zs) (a.0 ∙ sym b.0) (not_after_one xs ys (a.1.least ys b.1.walk) (b.1.least xs a.1.walk))

some_one : (found : Option CoreFunction) (f g : CoreFunction) → found ≡ Some f → found ≡ Some g → f ≡ g
some_one found f g a b = let e : Some f ≡ Some g = sym a ∙ b in cc

-- ---- a path is told in one way

module _ (shader : CoreModule) (differ : CallsDiffer shader) (tags : List (List Tag)) where
  via_one : (k : ℕ) (function : CoreFunction) → slice_get shader.functions k ≡ Some function → (u v : Node) (one other : Via) → IsVia shader function tags u v one → IsVia shader function tags u v other → one ≡ other
  via_one k function at u v one other a b =
      let calls : one.call ≡ other.call = same_number one.call other.call (λ l. b.least one a.gives (inl l)) (λ l. a.least other b.gives (inl l)) in
      let tag : one.tag ≡ other.tag = tag_alike one.tag other.tag (λ l. b.least one a.gives (inr (calls, l))) (λ l. a.least other b.gives (inr (sym calls, l))) in
      let stands : Analysed Start (code_of function.body) a.gives.under (call other.call one.callee a.gives.args a.gives.rest) =
      subst (λ (n : ℕ). Analysed Start (code_of function.body) a.gives.under (call n one.callee a.gives.args a.gives.rest)) calls a.gives.stands in
      let callee : one.callee ≡ other.callee = differ k function at other.call one.callee other.callee a.gives.under b.gives.under a.gives.args b.gives.args a.gives.rest b.gives.rest stands b.gives.stands in
      λ i. record { call = calls i; callee = callee i; tag = tag i }

  reason_one : (k : ℕ) (function : CoreFunction) → slice_get shader.functions k ≡ Some function → (u v : Node) {r s : Option Via} → IsReason shader function tags u v r → IsReason shader function tags u v s → r ≡ s
  reason_one k function at u v (by_rule o) (by_rule p) = refl
  reason_one k function at u v (by_rule o) (by_call i) = absurd (i.alone o)
  reason_one k function at u v (by_call i) (by_rule o) = absurd (i.alone o)
  reason_one k function at u v (by_call {via = one} i) (by_call {via = other} j) = ap (λ (x : Via). Some x) (via_one k function at u v one other i j)

  reasons_one : (k : ℕ) (function : CoreFunction) → slice_get shader.functions k ≡ Some function → (from : Node) (nodes : List Node) (xs ys : List PathStep) → AreReasons shader function tags from nodes xs
      → AreReasons shader function tags from nodes ys → xs ≡ ys
  reasons_one k function at from [] xs ys a b = a ∙ sym b
  reasons_one k function at from (node ∷ nodes) [] ys a b = absurd a
  reasons_one k function at from (node ∷ nodes) (x ∷ xs) [] a b = absurd b
  reasons_one k function at from (node ∷ nodes) (x ∷ xs) (y ∷ ys) a b =
      let same : x.node ≡ y.node = a.0 ∙ sym b.0 in
      let reason : x.via ≡ y.via = reason_one k function at from node a.1 b.1 in
      let e : x ≡ y = λ i. record { node = same i; via = reason i } in
      ap₂ (λ z zs. z ∷ zs) e (reasons_one k function at node nodes xs ys a.2 b.2)

  told_one : (k : ℕ) (function : CoreFunction) → slice_get shader.functions k ≡ Some function → (path : List Node) (xs ys : List PathStep) → IsTold shader function tags path xs → IsTold shader function tags path ys → xs ≡ ys
  told_one k function at [] xs ys a b = a ∙ sym b
  told_one k function at (first ∷ nodes) xs ys a b = a.1 ∙ (ap (λ (zs : List PathStep). plain_step first ∷ zs) (reasons_one k function at first nodes a.0 b.0 a.2 b.2) ∙ sym b.1)

  -- ---- used tags

  tag_shown_one : (k : ℕ) (tag : Tag) (xs ys : List PathStep) → ShowsTag shader tags k tag xs → ShowsTag shader tags k tag ys → xs ≡ ys
  tag_shown_one k tag xs ys a b =
      let same : b.function ≡ a.function = some_one (slice_get shader.functions k) b.function a.function b.numbered a.numbered in
      let least : IsLeastPath (Edge shader a.function tags) NodeLess tag.source tag.target b.path = subst (λ (f : CoreFunction). IsLeastPath (Edge shader f tags) NodeLess tag.source tag.target b.path) same b.least in
      let path : b.path ≡ a.path = least_one (Edge shader a.function tags) tag.source tag.target b.path a.path least a.least in
      let told : IsTold shader a.function tags b.path ys = subst (λ (f : CoreFunction). IsTold shader f tags b.path ys) same b.told in
      told_one k a.function a.numbered a.path xs ys a.told (subst (λ (p : List Node). IsTold shader a.function tags p ys) path told)

  used_clash : (a b : UsedTag) → UsedLess a b → UsedLess b a → ⊥
  used_clash a b (inl x) (inl y) = below_clash a.function b.function x y
  used_clash a b (inl x) (inr y) = let e : b.function ≡ a.function = y.0 in omega arith
  used_clash a b (inr x) (inl y) = let e : a.function ≡ b.function = x.0 in omega arith
  used_clash a b (inr x) (inr y) = tag_clash a.tag b.tag x.1 y.1

  used_by : (one other : List UsedTag) → AreUsed shader tags one → AreUsed shader tags other → (u : UsedTag) → Among u one → Among u other
  used_by one other a b u h =
      let found : (item : UsedTag) × Among item other × (item.function ≡ u.function) × (item.tag ≡ u.tag) = b.complete u.function u.tag (a.sound u h) in
      let shown : ShowsTag shader tags u.function found.0.tag found.0.path = subst (λ (k : ℕ). ShowsTag shader tags k found.0.tag found.0.path) found.2 (b.shown found.0 found.1) in
      let again : ShowsTag shader tags u.function u.tag found.0.path = subst (λ (t : Tag). ShowsTag shader tags u.function t found.0.path) found.3 shown in
      let paths : found.0.path ≡ u.path = tag_shown_one u.function u.tag found.0.path u.path again (a.shown u h) in
      let same : found.0 ≡ u = λ i. record { function = found.2 i; tag = found.3 i; path = paths i } in
      subst (λ (item : UsedTag). Among item other) same found.1

pub one_used : OneUsed
one_used shader differ tags one other a b =
    lists_one UsedLess (used_clash shader differ tags) one other a.ordered b.ordered (used_by shader differ tags one other a b) (used_by shader differ tags other one b a)

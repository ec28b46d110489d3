-- Nodes in order, each once, and where a node stands among them.
use Rattle.std.proofs.Common.{◌≡◌, ℕ, ◌+◌, ◌<◌, List, get_or, refl, sym, subst, arith, inl, inr, true, false, Option, Some}
use Rattle.std.specs.Prelude.{Contains, ◌⊎◌, slice_get, Result, Ok, Err, IfNone}
use Rattle.std.specs.declared.cmp.Ordering.{Ordering}
use Rattle.std.specs.declared.cmp.Ordering.TheVariants.{Less, Equal, Greater}
use Rattle.std.specs.Ordering.{is_lt, ordering_reverse}
use Rattle.std.proofs.lemmas.Bool.{cases_lt}
use Rattle.std.specs.Result.{result_ok}
use Rattle.std.specs.List.{dedup}
use Rattle.std.specs.List.Sorted.{IsPermutation, IsSorted, IsStrictlySortedBy, IsBinarySearchResult}
use Rattle.std.proofs.lemmas.List.Kept.{IsStrictlySortedBy-dedup, Contains-dedup, Contains-from_dedup}
use Rattle.std.proofs.lemmas.List.Sorted.{Contains-permutation, IsPermutation-sym, searchable_from_sorted}
use Rattle.std.proofs.lemmas.Map.Keys.{Less-from_sorted}
use Rattle.std.proofs.lemmas.Option.{get_or_from_slice_get, slice_get-get_or, slice_get_within}
use Rattle.shade_graph.specs.declared.node.Node.{Node}
use Rattle.shade_graph.specs.Order.{first_key, second_key, NodeLess, IsAscending}
use Rattle.shade_graph.proofs.NodeLaws.{node_cmp, node_eq, node_total, node_ties, node_same, node_equiv, less_is}

-- a node does not come before one that comes before it
pub apart : (u v : Node) → NodeLess u v → NodeLess v u → ⊥
apart u v (inl a) (inl b) = omega (arith, a, b)
apart u v (inl a) (inr b) = omega (arith, a, b.0)
apart u v (inr a) (inl b) = omega (arith, a.0, b)
apart u v (inr a) (inr b) = keys a.1 b.1
  where
    keys : (first_key u < first_key v) ⊎ ((first_key u ≡ first_key v) × (second_key u < second_key v)) → (first_key v < first_key u) ⊎ ((first_key v ≡ first_key u) × (second_key v < second_key u)) → ⊥
    keys (inl a) (inl b) = omega (arith, a, b)
    keys (inl a) (inr b) = omega (arith, a, b.0)
    keys (inr a) (inl b) = omega (arith, a.0, b)
    keys (inr a) (inr b) = omega (arith, a.1, b.1)

pub ascending_from : (sorted ys : List Node) → IsSorted node_cmp sorted → ys ≡ dedup node_eq sorted → IsAscending ys
ascending_from sorted ys s e j k u v lt at_j at_k =
    less_is u v (subst (λ (w : Node). node_cmp w v ≡ Less) (get_or_from_slice_get ys j u u at_j) (subst (λ (w : Node). node_cmp (get_or ys j u) w ≡ Less) (get_or_from_slice_get ys k v u at_k) (Less-from_sorted node_cmp ys j k u strictly lt (slice_get_within ys k v at_k))))
  where
    strictly : IsStrictlySortedBy node_cmp ys
    strictly = rw e (IsStrictlySortedBy-dedup node_total node_ties sorted s)

pub kept : (xs sorted ys : List Node) → IsPermutation xs sorted → ys ≡ dedup node_eq sorted → (u : Node) → Contains xs u → Contains ys u
kept xs sorted ys p e u h = rw e (Contains-dedup node_equiv node_same sorted u (Contains-permutation xs sorted u p h))

pub had : (xs sorted ys : List Node) → IsPermutation xs sorted → ys ≡ dedup node_eq sorted → (u : Node) → Contains ys u → Contains xs u
had xs sorted ys p e u h = Contains-permutation sorted xs u (IsPermutation-sym xs sorted p) (Contains-from_dedup node_eq sorted u (rw e at h))

not_less : (o : Ordering) → (o ≡ Less → ⊥) → is_lt o ≡ false
not_less Less h = absurd (h refl)
not_less Equal h = refl
not_less Greater h = refl

less_of : (o : Ordering) → is_lt o ≡ true → o ≡ Less
less_of Less e = refl
less_of Equal e = cc
less_of Greater e = cc

-- nodes in order are sorted as the program compares them
pub sorted_of : (nodes : List Node) → IsAscending nodes → IsSorted node_cmp nodes
sorted_of nodes up k d low lt =
    not_less _ (λ e. apart _ _ (up k (k + 1) (get_or nodes k d) (get_or nodes (k + 1) d) (omega arith) (slice_get-get_or nodes k d (omega (arith, lt))) (slice_get-get_or nodes (k + 1) d lt)) (less_is _ _ e))

reversed : (o : Ordering) → o ≡ ordering_reverse o → o ≡ Equal
reversed Less e = cc
reversed Equal e = refl
reversed Greater e = cc

pub self_equal : (u : Node) → node_cmp u u ≡ Equal
self_equal u = reversed (node_cmp u u) (node_total.antisymm u u)

pub not_found : (nodes : List Node) (node : Node) (r : Result ℕ ℕ) (o : Option ℕ) → IsAscending nodes → IsBinarySearchResult (λ y. node_cmp y node) nodes r → o ≡ result_ok r
    → IfNone o ((k : ℕ) → slice_get nodes k ≡ Some node → ⊥)
not_found nodes node (Ok i) o up found e = subst (λ (o : Option ℕ). IfNone o ((k : ℕ) → slice_get nodes k ≡ Some node → ⊥)) (sym e) tt
not_found nodes node (Err i) o up found e = subst (λ (o : Option ℕ). IfNone o ((k : ℕ) → slice_get nodes k ≡ Some node → ⊥)) (sym e) nowhere
  where
    nowhere : (k : ℕ) → slice_get nodes k ≡ Some node → ⊥
    nowhere k at_k =
        let parts = found (searchable_from_sorted node_total (λ (u : Node). u) nodes node (sorted_of nodes up)) in
        let here : node_cmp (get_or nodes k node) node ≡ Equal = subst (λ (w : Node). node_cmp w node ≡ Equal) (sym (get_or_from_slice_get nodes k node node at_k)) (self_equal node) in
        elim (cases_lt k i) [
          | inl below ↦ let less = parts.0 k node (omega arith) below in cc
          | inr above ↦ let greater = parts.1 k node above (slice_get_within nodes k node at_k) in cc
        ]

-- Edges from pairs of nodes, one after another.
use Rattle.std.proofs.Common.{sym, ap, subst, ◌∙◌, ℕ, ◌+◌, ◌<◌, List, [], ◌∷◌, ◌++◌, Some, inl, inr, take, length, get_or}
use Rattle.std.specs.Prelude.{slice_get}
use Rattle.std.proofs.lemmas.List.{take_more}
use Rattle.shade_graph.specs.declared.node.Node.{Node}
use Rattle.shade_graph.specs.Graph.{Among, here}
use Rattle.shade_graph.specs.Numbered.{Pair, Numbers, IsNumbered}
use Rattle.shade_graph.proofs.Members.{among_left, among_right, among_split, among_one}

pub numbered_none : (nodes : List Node) → IsNumbered nodes [] []
numbered_none nodes = record { sound = λ i j e. elim e [ ]; complete = λ u v e a c. elim e [ ] }

-- one more pair
numbered_push : (nodes : List Node) (pairs : List Pair) (pair : Pair) (old new : List (ℕ × ℕ)) → IsNumbered nodes pairs old → Numbers nodes pair old new → IsNumbered nodes (pairs ++ pair ∷ []) new
numbered_push nodes pairs pair old new h (inl n) = record {
  sound = λ i j e. elim (among_split old ((n.0, n.1) ∷ []) (subst (λ (z : List (ℕ × ℕ)). Among (i, j) z) n.4 e)) [
    | inl a ↦ (let r = h.sound i j a in (r.0, r.1, among_left pairs _ r.2, r.3, r.4))
    | inr a ↦ (let same = among_one (n.0, n.1) a in
        (pair.0, pair.1, among_right pairs _ here, ap (λ (k : ℕ). slice_get nodes k) (ap (λ (p : ℕ × ℕ). p.0) same) ∙ n.2, ap (λ (k : ℕ). slice_get nodes k) (ap (λ (p : ℕ × ℕ). p.1) same) ∙ n.3))
  ];
  complete = λ u v e a c. elim (among_split pairs (pair ∷ []) e) [
    | inl k ↦ (let r = h.complete u v k a c in (r.0, r.1, subst (λ (z : List (ℕ × ℕ)). Among (r.0, r.1) z) (sym n.4) (among_left old _ r.2), r.3, r.4))
    | inr k ↦ (let same = among_one pair k in
        (n.0, n.1, subst (λ (z : List (ℕ × ℕ)). Among (n.0, n.1) z) (sym n.4) (among_right old _ here), n.2 ∙ ap (λ (p : Pair). Some p.0) (sym same), n.3 ∙ ap (λ (p : Pair). Some p.1) (sym same)))
  ];
}
numbered_push nodes pairs pair old new h (inr n) = record {
  sound = λ i j e. (let r = h.sound i j (subst (λ (z : List (ℕ × ℕ)). Among (i, j) z) n.0 e) in (r.0, r.1, among_left pairs _ r.2, r.3, r.4));
  complete = λ u v e a c. elim (among_split pairs (pair ∷ []) e) [
    | inl k ↦ (let r = h.complete u v k a c in (r.0, r.1, subst (λ (z : List (ℕ × ℕ)). Among (r.0, r.1) z) (sym n.0) r.2, r.3, r.4))
    | inr k ↦ (let same = among_one pair k in elim n.1 [
      | inl no_from ↦ absurd (no_from (a.0, a.1 ∙ ap (λ (p : Pair). Some p.0) same))
      | inr no_to ↦ absurd (no_to (c.0, c.1 ∙ ap (λ (p : Pair). Some p.1) same))
    ])
  ];
}

pub numbered_at : (nodes : List Node) (pairs : List Pair) (i : ℕ) (d : Pair) (old new : List (ℕ × ℕ)) → i < length pairs → IsNumbered nodes (take i pairs) old → Numbers nodes (get_or pairs i d) old new → IsNumbered nodes (take (i + 1) pairs) new
numbered_at nodes pairs i d old new lt h n =
    subst (λ (r : List Pair). IsNumbered nodes r new) (sym (take_more pairs i d lt)) (numbered_push nodes (take i pairs) (get_or pairs i d) old new h n)

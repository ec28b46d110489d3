-- The edges that analysed statements give, row by row.
use Rattle.std.proofs.Common.{◌≡◌, refl, sym, ap, subst, ◌∙◌, ℕ, ◌+◌, ◌<◌, List, [], ◌∷◌, ◌++◌, Some, inl, inr, take, length, get_or}
use Rattle.std.specs.Prelude.{◌↔◌, ◌⊎◌, Contains, slice_get}
use Rattle.std.proofs.lemmas.List.{take_more}
use Rattle.std.proofs.lemmas.Option.{slice_get_within}
use Rattle.shade_core.specs.declared.module.CoreFunction.{CoreFunction}
use Rattle.shade_core.specs.declared.module.CoreModule.{CoreModule}
use Rattle.shade_graph.specs.declared.node.Node.{Node}
use Rattle.shade_graph.specs.Graph.{Among, here}
use Rattle.shade_graph.specs.Numbered.{Has}
use Rattle.shade_graph.specs.Order.{IsAscending}
use Rattle.shade_graph.proofs.GraphLaws.{one_number}
use Rattle.shade_graph.proofs.Members.{among_left, among_right, among_split, among_one, get_among, among_contains, some_same}
use Rattle.shade_uniformity.specs.declared.edges.Joined.{Joined}
use Rattle.shade_uniformity.specs.declared.rows.Given.{Given}
use Rattle.shade_uniformity.specs.Edges.{IsNode, Gives}
use Rattle.shade_uniformity.specs.RowLists.{given}
use Rattle.shade_uniformity.specs.AllRows.{IsGiven, AreRows}
use Rattle.shade_uniformity.specs.Joined.{joined, AreGiven, AreJoined, Keeps}

module _ (nodes : List Node) where
  pub joined_none : AreJoined nodes [] []
  joined_none = record { sound = λ edge h. elim h [ ]; complete = λ row h from to. elim h [ ] }

  joined_push : (rows : List Given) (one : Given) (old new : List Joined) → AreJoined nodes rows old → Keeps nodes one old new → AreJoined nodes (rows ++ one ∷ []) new
  joined_push rows one old new before (inl k) = record {
    sound = λ edge h. elim (among_split old (joined one.statement k.0 k.1 ∷ []) (subst (λ (l : List Joined). Among edge l) k.4 h)) [
      | inl own ↦ (let r = before.sound edge own in (r.0, among_left rows (one ∷ []) r.1, r.2, r.3, r.4))
      | inr latest ↦ (let same : edge ≡ joined one.statement k.0 k.1 = among_one (joined one.statement k.0 k.1) latest in
          (one, among_right rows (one ∷ []) here, ap (λ (e : Joined). e.statement) same, ap (λ (e : Joined). slice_get nodes e.from) same ∙ k.2, ap (λ (e : Joined). slice_get nodes e.to) same ∙ k.3))
    ];
    complete = λ row h from to. elim (among_split rows (one ∷ []) h) [
      | inl earlier ↦ (let r = before.complete row earlier from to in (r.0, subst (λ (l : List Joined). Among r.0 l) (sym k.4) (among_left old (joined one.statement k.0 k.1 ∷ []) r.1), r.2, r.3, r.4))
      | inr latest ↦ (let same : row ≡ one = among_one one latest in (
        joined one.statement k.0 k.1,
        subst (λ (l : List Joined). Among (joined one.statement k.0 k.1) l) (sym k.4) (among_right old (joined one.statement k.0 k.1 ∷ []) here),
        ap (λ (r : Given). r.statement) (sym same),
        k.2 ∙ ap (λ (r : Given). Some r.from) (sym same),
        k.3 ∙ ap (λ (r : Given). Some r.to) (sym same),
      ))
    ];
  }
  joined_push rows one old new before (inr k) = record {
    sound = λ edge h. (let r = before.sound edge (subst (λ (l : List Joined). Among edge l) k.0 h) in (r.0, among_left rows (one ∷ []) r.1, r.2, r.3, r.4));
    complete = λ row h from to. elim (among_split rows (one ∷ []) h) [
      | inl earlier ↦ (let r = before.complete row earlier from to in (r.0, subst (λ (l : List Joined). Among r.0 l) (sym k.0) r.1, r.2, r.3, r.4))
      | inr latest ↦ (let same : row ≡ one = among_one one latest in elim k.1 [
        | inl no_from ↦ absurd (no_from (from.0, from.1 ∙ ap (λ (r : Given). Some r.from) same))
        | inr no_to ↦ absurd (no_to (to.0, to.1 ∙ ap (λ (r : Given). Some r.to) same))
      ])
    ];
  }

  pub joined_at : (rows : List Given) (i : ℕ) (d : Given) (old new : List Joined) → i < length rows → AreJoined nodes (take i rows) old → Keeps nodes (get_or rows i d) old new → AreJoined nodes (take (i + 1) rows) new
  joined_at rows i d old new lt before one =
      subst (λ (l : List Given). AreJoined nodes l new) (sym (take_more rows i d lt)) (joined_push (take i rows) (get_or rows i d) old new before one)

given_same : (n : ℕ) (u v : Node) (row : Given) → row.statement ≡ n → row.from ≡ u → row.to ≡ v → row ≡ given n u v
given_same n u v row s from to = ap (λ (k : ℕ). given k row.from row.to) s ∙ (ap (λ (w : Node). given n w row.to) from ∙ ap (λ (w : Node). given n u w) to)

joined_same : (n i j : ℕ) (edge : Joined) → edge.statement ≡ n → edge.from ≡ i → edge.to ≡ j → edge ≡ joined n i j
joined_same n i j edge s from to = ap (λ (k : ℕ). joined k edge.from edge.to) s ∙ (ap (λ (k : ℕ). joined n k edge.to) from ∙ ap (λ (k : ℕ). joined n i k) to)

module _ (shader : CoreModule) (f : CoreFunction) (nodes : List Node) (rows : List Given) (edges : List Joined) (nodes_are : (u : Node) → Contains nodes u ↔ IsNode shader f u) (up : IsAscending nodes)
    (rows_are : AreRows shader f rows) (joins : AreJoined nodes rows edges) where
  at_place : (i : ℕ) (u : Node) → slice_get nodes i ≡ Some u → IsNode shader f u
  at_place i u at = (nodes_are u).0 (among_contains nodes u (get_among nodes i u at))

  edge_given : (n i j : ℕ) (u v : Node) → slice_get nodes i ≡ Some u → slice_get nodes j ≡ Some v → Among (joined n i j) edges → Gives shader f n u v
  edge_given n i j u v at_i at_j h =
      let r = joins.sound (joined n i j) h in
      let same : r.0 ≡ given n u v = given_same n u v r.0 (sym r.2) (some_same u r.0.from (sym at_i ∙ r.3)) (some_same v r.0.to (sym at_j ∙ r.4)) in
      let g : IsGiven shader f (given n u v) = (rows_are (given n u v)).0 (subst (λ (z : Given). Among z rows) same r.1) in
      record { ends = record { from = at_place i u at_i; to = at_place j v at_j }; under = g.under; here = g.here; rest = g.rest; stands = g.stands; numbered = g.numbered; row = g.row }

  given_edge : (n i j : ℕ) (u v : Node) → slice_get nodes i ≡ Some u → slice_get nodes j ≡ Some v → Gives shader f n u v → Among (joined n i j) edges
  given_edge n i j u v at_i at_j g =
      let row : Among (given n u v) rows = (rows_are (given n u v)).1 (record { under = g.under; here = g.here; rest = g.rest; stands = g.stands; numbered = g.numbered; row = g.row }) in
      let r = joins.complete (given n u v) row (i, at_i) (j, at_j) in
      let same : r.0 ≡ joined n i j = joined_same n i j r.0 r.2 (one_number nodes r.0.from i u up r.3 at_i) (one_number nodes r.0.to j v up r.4 at_j) in
      subst (λ (e : Joined). Among e edges) same r.1

  pub are_given : AreGiven shader f nodes edges
  are_given = record {
    within = λ edge h. (let r = joins.sound edge h in (slice_get_within nodes edge.from r.0.from r.3, slice_get_within nodes edge.to r.0.to r.4));
    exact = λ n i j u v at_i at_j. (edge_given n i j u v at_i at_j, given_edge n i j u v at_i at_j);
  }

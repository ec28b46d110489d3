-- The least path goes on by the least node that is one nearer.
use Rattle.std.proofs.Common.{◌≡◌, ℕ, ◌+◌, ◌<◌, ◌≤◌, List, [], ◌∷◌, ◌++◌, length, get_or, Option, None, Some, refl, ap, sym, ◌∙◌, arith, subst, inl, inr, append_assoc}
use Rattle.std.specs.Prelude.{slice_get, All, Contains}
use Rattle.std.specs.List.Sorted.{IsStrictlyIncreasing}
use Rattle.std.proofs.lemmas.Bool.Decides.{eqb_tells, leb_tells}
use Rattle.std.proofs.lemmas.List.{append-nil}
use Rattle.std.proofs.lemmas.List.Elements.{All-contains}
use Rattle.std.proofs.lemmas.List.Kept.{AllPairs-from_increasing}
use Rattle.std.proofs.lemmas.Option.{slice_get-get_or, slice_get_within, get_or_from_slice_get}
use Rattle.shade_reach.specs.Paths.{Walk, NotAfter, IsLeast}
use Rattle.shade_reach.specs.Digraph.{HasEdge, IsTargets, IsDistances, IsLeastEdgePath}
use Rattle.shade_reach.specs.Search.{IsMarked, IsFirstAt}

abbrev pub Below : ℕ → ℕ → Type 0
Below node other = node < other

-- the empty walk is the least from a node to itself
pub least-here : (Joined : ℕ → ℕ → Type 0) (node : ℕ) → IsLeast Joined Below node node []
least-here Joined node = record { walk = refl; least = λ other w. here other }
  where
    here : (other : List ℕ) → NotAfter Below [] other
    here [] = inr (refl, tt)
    here (x ∷ other) = inl (omega arith)

-- a node from which a walk leads to the target is marked with a distance that is no more than the walk's
marked_by : (nodes : ℕ) (edges : List (ℕ × ℕ)) (target : ℕ) (distances : List (Option ℕ)) → IsDistances nodes edges target distances
    → (node : ℕ) → node < nodes → (rest : List ℕ) → Walk (HasEdge edges) node target rest → (distance : ℕ) × IsMarked distances node distance × (distance ≤ length rest)
marked_by nodes edges target distances d node below rest w = by (slice_get distances node) refl
  where
    by : (o : Option (Option ℕ)) → slice_get distances node ≡ o → (distance : ℕ) × IsMarked distances node distance × (distance ≤ length rest)
    by None e =
        let within : node < length distances = omega (arith, d.long, below) in
        cc (slice_get-get_or distances node None within, e)
    by (Some None) e = absurd (d.none node e (node ∷ rest) (refl, w))
    by (Some (Some distance)) e = (distance, e, (d.some node distance e).least rest w)

-- The least walk goes on by the least node that is one nearer.
module _ (nodes : ℕ) (edges : List (ℕ × ℕ)) (target : ℕ) (distances : List (Option ℕ)) (d : IsDistances nodes edges target distances) (at left next : ℕ) (here : IsMarked distances at (left + 1))
    (inside : (other : ℕ) → HasEdge edges at other → other < nodes) (edge : HasEdge edges at next) (nearer : IsMarked distances next left)
    (first : (other : ℕ) → HasEdge edges at other → IsMarked distances other left → next ≤ other) where
  pub least-step : (rest : List ℕ) → IsLeast (HasEdge edges) Below next target rest → IsLeast (HasEdge edges) Below at target (next ∷ rest)
  least-step rest l = record { walk = (edge, l.walk); least = not_after }
    where
      -- the rest is no longer than the distance says
      short : length rest ≤ left
      short =
          let w : (r : List ℕ) × (length r ≡ left) × Walk (HasEdge edges) next target r = (d.some next left nearer).reached in
          elim (l.least w.0 w.2) [ inl h ↦ omega (arith, h, w.1) | inr h ↦ omega (arith, h.0, w.1) ]

      -- no walk from the node is shorter than its distance
      far : (other : List ℕ) → Walk (HasEdge edges) at target other → left + 1 ≤ length other
      far other w = (d.some at (left + 1) here).least other w

      not_after : (other : List ℕ) → Walk (HasEdge edges) at target other → NotAfter Below (next ∷ rest) other
      not_after [] w = absurd (omega (arith, far [] w))
      not_after (node ∷ other) w = elim (eqb_tells (length rest) (length other)) [
        | inl long ↦ (let m : (distance : ℕ) × IsMarked distances node distance × (distance ≤ length other) = marked_by nodes edges target distances d node (inside node w.0) other w.1 in
            let v : (r : List ℕ) × (length r ≡ m.0) × Walk (HasEdge edges) node target r = (d.some node m.0 m.1).reached in
            let near : left + 1 ≤ length (node ∷ v.0) = far (node ∷ v.0) (w.0, v.2) in
            let exact : m.0 ≡ left = omega (arith, near, v.1, m.2, short, long.1) in
            let is_nearer : IsMarked distances node left = rw exact at m.1 in
            let le : next ≤ node = first node w.0 is_nearer in
            let longs : length (next ∷ rest) ≡ length (node ∷ other) = omega (arith, long.1) in
            elim (eqb_tells next node) [
              | inl s ↦ elim (l.least other (rw (← s.1) at w.1)) [ inl h ↦ absurd (omega (arith, h, long.1)) | inr h ↦ inr (longs, inr (s.1, h.1)) ]
              | inr o ↦ (let lt : next < node = omega (arith, le, o.1) in inr (longs, inl lt))
            ])
        | inr longer ↦ (let lt : length (next ∷ rest) < length (node ∷ other) = omega (arith, far (node ∷ other) w, short, longer.1) in inl lt)
      ]

-- What is added to a path so far makes it the least, if it is the least from there.
pub record IsOnWay (edges : List (ℕ × ℕ)) (from target : ℕ) (distances : List (Option ℕ)) (path : List ℕ) (at left : ℕ) : Type 0 where
  pub here : IsMarked distances at left
  pub way : (rest : List ℕ) → IsLeast (HasEdge edges) Below at target rest → IsLeastEdgePath edges from target (path ++ rest)

pub way-begin : (edges : List (ℕ × ℕ)) (from target : ℕ) (distances : List (Option ℕ)) (left : ℕ) → IsMarked distances from left → IsOnWay edges from target distances (from ∷ []) from left
way-begin edges from target distances left e = record { here = e; way = λ rest l. (refl, l) }

pub way-step : (nodes : ℕ) (edges : List (ℕ × ℕ)) (from target : ℕ) (distances : List (Option ℕ)) (path targets : List ℕ) (at left next : ℕ) → IsDistances nodes edges target distances
    → IsOnWay edges from target distances path at (left + 1) → IsTargets edges at targets → All (λ (node : ℕ). node < nodes) targets → IsFirstAt targets distances left next
    → IsOnWay edges from target distances (path ++ next ∷ []) next left
way-step nodes edges from target distances path targets at left next d w t all f = record {
  here = f.marked;
  way = λ rest l. subst (λ (p : List ℕ). IsLeastEdgePath edges from target p) (sym (append_assoc path (next ∷ []) rest)) (w.way (next ∷ rest) (least-step nodes edges target distances d at left next w.here inside edge f.marked first rest l));
}
  where
    inside : (other : ℕ) → HasEdge edges at other → other < nodes
    inside other h = All-contains (λ (node : ℕ). node < nodes) targets other all ((t.ends other).1 h)

    edge : HasEdge edges at next
    edge = (t.ends next).0 f.listed

    first : (other : ℕ) → HasEdge edges at other → IsMarked distances other left → next ≤ other
    first other h m = f.least other ((t.ends other).1 h) m

-- A node on the way, which is not at its end, has a target that is one nearer.
pub way-goes_on : (nodes : ℕ) (edges : List (ℕ × ℕ)) (from target : ℕ) (distances : List (Option ℕ)) (path targets : List ℕ) (at left : ℕ) → IsDistances nodes edges target distances
    → IsOnWay edges from target distances path at (left + 1) → IsTargets edges at targets → All (λ (node : ℕ). node < nodes) targets
    → (node : ℕ) × Contains targets node × IsMarked distances node left
way-goes_on nodes edges from target distances path targets at left d w t all = next here.0 here.1 here.2
  where
    here : (rest : List ℕ) × (length rest ≡ left + 1) × Walk (HasEdge edges) at target rest
    here = (d.some at (left + 1) w.here).reached

    next : (rest : List ℕ) → length rest ≡ left + 1 → Walk (HasEdge edges) at target rest → (node : ℕ) × Contains targets node × IsMarked distances node left
    next [] long walk = absurd (omega (arith, long))
    next (node ∷ rest) long walk =
        let listed : Contains targets node = (t.ends node).1 walk.0 in
        let m : (distance : ℕ) × IsMarked distances node distance × (distance ≤ length rest) = marked_by nodes edges target distances d node (All-contains (λ (node : ℕ). node < nodes) targets node all listed) rest walk.1 in
        let v : (r : List ℕ) × (length r ≡ m.0) × Walk (HasEdge edges) node target r = (d.some node m.0 m.1).reached in
        let far : left + 1 ≤ length (node ∷ v.0) = (d.some at (left + 1) w.here).least (node ∷ v.0) (walk.0, v.2) in
        let exact : m.0 ≡ left = omega (arith, far, v.1, m.2, long) in
        (node, listed, rw exact at m.1)

pub way-end : (nodes : ℕ) (edges : List (ℕ × ℕ)) (from target : ℕ) (distances : List (Option ℕ)) (path : List ℕ) (at left : ℕ) → IsDistances nodes edges target distances → IsOnWay edges from target distances path at left → left ≡ 0
    → IsLeastEdgePath edges from target path
way-end nodes edges from target distances path at left d w e =
    let at_zero : IsMarked distances at 0 = rw e at w.here in
    let empty : (r : List ℕ) × (length r ≡ 0) × Walk (HasEdge edges) at target r = (d.some at 0 at_zero).reached in
    let is : at ≡ target = arrived empty.0 empty.1 empty.2 in
    rw append-nil at (w.way [] (subst (λ (k : ℕ). IsLeast (HasEdge edges) Below at k []) is (least-here (HasEdge edges) at)))
  where
    arrived : (r : List ℕ) → length r ≡ 0 → Walk (HasEdge edges) at target r → at ≡ target
    arrived [] z v = v
    arrived (x ∷ r) z v = absurd (omega (arith, z))

-- the nodes before a place are not at this distance
abbrev pub NoneBefore : List ℕ → List (Option ℕ) → ℕ → ℕ → Type 0
NoneBefore nodes distances distance index = (k node : ℕ) → k < index → slice_get nodes k ≡ Some node → IsMarked distances node distance → ⊥

-- a node before which none is at this distance is the least that is
pub first-is : (nodes : List ℕ) (distances : List (Option ℕ)) (distance index node : ℕ) → IsStrictlyIncreasing nodes → NoneBefore nodes distances distance index → slice_get nodes index ≡ Some node → IsMarked distances node distance → IsFirstAt nodes distances distance node
first-is nodes distances distance index node up none at m = record {
  listed = (index, slice_get_within nodes index node at, get_or_from_slice_get nodes index node node at);
  marked = m;
  least = least;
}
  where
    least : (other : ℕ) → Contains nodes other → IsMarked distances other distance → node ≤ other
    least other c n =
        let there : slice_get nodes c.0 ≡ Some other = slice_get-get_or nodes c.0 other c.1 ∙ ap (λ (k : ℕ). Some k) c.2 in
        elim (eqb_tells c.0 index) [
          | inl s ↦ (let same : node ≡ other = cc (at, rw s.1 at there) in omega (arith, same))
          | inr o ↦ elim (leb_tells c.0 index) [
            | inl before ↦ absurd (none c.0 other (omega (arith, o.1, before.1)) there n)
            | inr after ↦ (let lt : get_or nodes index 0 < get_or nodes c.0 0 = AllPairs-from_increasing nodes up index c.0 0 after.1 c.1 in
                let this : get_or nodes index 0 ≡ node = get_or_from_slice_get nodes index node 0 at in
                let that : get_or nodes c.0 0 ≡ other = get_or_from_slice_get nodes c.0 other 0 there in
                omega (arith, lt, this, that))
          ]
        ]

pub none-more : (nodes : List ℕ) (distances : List (Option ℕ)) (distance index node : ℕ) → NoneBefore nodes distances distance index → slice_get nodes index ≡ Some node → (IsMarked distances node distance → ⊥) → NoneBefore nodes distances distance (index + 1)
none-more nodes distances distance index node none at away k other lt e m = elim (eqb_tells k index) [
  | inl s ↦ (let same : node ≡ other = cc (at, rw s.1 at e) in away (rw (← same) at m))
  | inr o ↦ none k other (omega (arith, lt, o.1)) e m
]

pub none-all : (nodes : List ℕ) (distances : List (Option ℕ)) (distance index : ℕ) → NoneBefore nodes distances distance index → length nodes ≤ index → (node : ℕ) × Contains nodes node × IsMarked distances node distance → ⊥
none-all nodes distances distance index none all some =
    let c : Contains nodes some.0 = some.1 in
    let at : slice_get nodes c.0 ≡ Some some.0 = slice_get-get_or nodes c.0 some.0 c.1 ∙ ap (λ (k : ℕ). Some k) c.2 in
    none c.0 some.0 (omega (arith, c.1, all)) at some.2

-- the mark that an index reads
pub marked_at : (distances : List (Option ℕ)) (node distance : ℕ) (other : Option ℕ) → node < length distances → get_or distances node other ≡ Some distance → IsMarked distances node distance
marked_at distances node distance other within read = slice_get-get_or distances node other within ∙ ap (λ (m : Option ℕ). Some m) read

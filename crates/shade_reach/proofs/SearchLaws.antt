-- A breadth-first search: what marking a node keeps, and what it knows at its end.
use Rattle.std.proofs.Common.{◌≡◌, ℕ, zero, suc, ◌+◌, ◌<◌, ◌≤◌, List, [], ◌∷◌, ◌++◌, length, replicate, Option, None, Some, refl, ap, sym, ◌∙◌, arith, subst, inl, inr, length-append}
use Rattle.std.specs.Prelude.{true, false, slice_get, slice_set, ◌≢◌, ◌⊎◌, Contains}
use Rattle.std.specs.Option.{is_some}
use Rattle.std.proofs.lemmas.Bool.Decides.{eqb_tells}
use Rattle.std.proofs.lemmas.List.{length-replicate, length-set}
use Rattle.std.proofs.lemmas.Option.{slice_get-get_or, slice_get_within}
use Rattle.shade_reach.specs.Paths.{Walk, IsDistance, NoPath}
use Rattle.shade_reach.specs.Digraph.{HasEdge, IsDistances}
use Rattle.shade_reach.specs.Search.{IsMarked, IsMarkedWithin, unmarked, Marks, IsSearch, AreMarked}

module _ {A : Type 0} where
  pub get-set_same : (xs : List A) (i : ℕ) (x old : A) → slice_get xs i ≡ Some old → slice_get (slice_set xs i x) i ≡ Some x
  get-set_same [] i x old e = cc
  get-set_same (y ∷ xs) zero x old e = refl
  get-set_same (y ∷ xs) (suc i) x old e = get-set_same xs i x old e

  pub get-set_other : (xs : List A) (i j : ℕ) (x : A) → i ≢ j → slice_get (slice_set xs i x) j ≡ slice_get xs j
  get-set_other [] i j x n = refl
  get-set_other (y ∷ xs) zero zero x n = absurd (n refl)
  get-set_other (y ∷ xs) zero (suc j) x n = refl
  get-set_other (y ∷ xs) (suc i) zero x n = refl
  get-set_other (y ∷ xs) (suc i) (suc j) x n = get-set_other xs i j x (λ e. n (ap suc e))

  pub get-append_left : (xs ys : List A) (i : ℕ) (x : A) → slice_get xs i ≡ Some x → slice_get (xs ++ ys) i ≡ Some x
  get-append_left [] ys i x e = cc
  get-append_left (y ∷ xs) ys zero x e = e
  get-append_left (y ∷ xs) ys (suc i) x e = get-append_left xs ys i x e

  pub get-push : (xs : List A) (x : A) → slice_get (xs ++ x ∷ []) (length xs) ≡ Some x
  get-push [] x = refl
  get-push (y ∷ xs) x = get-push xs x

  -- what stands in a list after a push stood there before, or is new and stands last
  pub push_cases : (xs : List A) (x y : A) (i : ℕ) → slice_get (xs ++ x ∷ []) i ≡ Some y → (slice_get xs i ≡ Some y) ⊎ ((i ≡ length xs) × (x ≡ y))
  push_cases [] x y zero e = inr (refl, cc)
  push_cases [] x y (suc i) e = cc
  push_cases (z ∷ xs) x y zero e = inl e
  push_cases (z ∷ xs) x y (suc i) e = elim (push_cases xs x y i e) [ inl h ↦ inl h | inr h ↦ inr (ap suc h.0, h.1) ]

  pub get-replicate : (n i : ℕ) (x y : A) → slice_get (replicate n x) i ≡ Some y → y ≡ x
  get-replicate zero i x y e = cc
  get-replicate (suc n) zero x y e = cc
  get-replicate (suc n) (suc i) x y e = get-replicate n i x y e

  pub get-replicate-below : (n i : ℕ) (x : A) → i < n → slice_get (replicate n x) i ≡ Some x
  get-replicate-below zero i x h = absurd (omega arith)
  get-replicate-below (suc n) zero x h = refl
  get-replicate-below (suc n) (suc i) x h = get-replicate-below n i x (omega arith)

pub unmarked-set : (distances : List (Option ℕ)) (node distance : ℕ) → slice_get distances node ≡ Some None → unmarked (slice_set distances node (Some distance)) + 1 ≡ unmarked distances
unmarked-set [] node distance e = cc
unmarked-set (None ∷ distances) zero distance e = refl
unmarked-set (Some other ∷ distances) zero distance e = cc
unmarked-set (None ∷ distances) (suc node) distance e = omega (arith, unmarked-set distances node distance e)
unmarked-set (Some other ∷ distances) (suc node) distance e = unmarked-set distances node distance e

pub unmarked-replicate : (n : ℕ) → unmarked (replicate n None) ≡ n
unmarked-replicate zero = refl
unmarked-replicate (suc n) = omega (arith, unmarked-replicate n)

-- a mark is one distance
same_mark : (distances : List (Option ℕ)) (node d e : ℕ) → IsMarked distances node d → IsMarked distances node e → d ≡ e
same_mark distances node d e p q = cc

-- A node that was not marked is marked: what that leaves, and what it adds.
module _ (distances : List (Option ℕ)) (node distance : ℕ) (free : slice_get distances node ≡ Some None) where
  pub mark_new : IsMarked (slice_set distances node (Some distance)) node distance
  mark_new = get-set_same distances node (Some distance) None free

  pub mark_stays : (other d : ℕ) → IsMarked distances other d → IsMarked (slice_set distances node (Some distance)) other d
  mark_stays other d m = elim (eqb_tells node other) [
    | inl s ↦ (let here : slice_get distances node ≡ Some (Some d) = rw (← s.1) at m in cc)
    | inr o ↦ get-set_other distances node other (Some distance) o.1 ∙ m
  ]

  pub mark_cases : (other d : ℕ) → IsMarked (slice_set distances node (Some distance)) other d → (IsMarked distances other d) ⊎ ((node ≡ other) × (distance ≡ d))
  mark_cases other d m = elim (eqb_tells node other) [
    | inl s ↦ (let here : IsMarked (slice_set distances node (Some distance)) node d = rw (← s.1) at m in inr (s.1, same_mark _ node _ _ mark_new here))
    | inr o ↦ inl (sym (get-set_other distances node other (Some distance) o.1) ∙ m)
  ]

  pub within_stays : (other most : ℕ) → IsMarkedWithin distances other most → IsMarkedWithin (slice_set distances node (Some distance)) other most
  within_stays other most w = (w.0, mark_stays other w.0 w.1, w.2)

-- One source of the next node found is marked, if it was not.
module _ (Joined : ℕ → ℕ → Type 0) (nodes target : ℕ) (distances : List (Option ℕ)) (found : List ℕ) (next here here_distance source : ℕ)
    (s : IsSearch Joined nodes target distances found next) (at_next : slice_get found next ≡ Some here) (is_here : IsMarked distances here here_distance)
    (joined : Joined source here) (free : slice_get distances source ≡ Some None) where
  within : next < length found
  within = slice_get_within found next here at_next

  -- a node that was listed keeps its mark
  in_found : (i node d : ℕ) → slice_get found i ≡ Some node → IsMarked (slice_set distances source (Some (here_distance + 1))) node d → IsMarked distances node d
  in_found i node d e m =
      let w : IsMarkedWithin distances node i = s.marked i node e in
      let same : w.0 ≡ d = same_mark _ node _ _ (mark_stays distances source (here_distance + 1) free node w.0 w.1) m in
      rw same at w.1

  early : here_distance ≤ next
  early =
      let w : IsMarkedWithin distances here next = s.marked next here at_next in
      let same : w.0 ≡ here_distance = same_mark distances here _ _ w.1 is_here in
      omega (arith, same, w.2)

  count : length (found ++ source ∷ []) + unmarked (slice_set distances source (Some (here_distance + 1))) ≡ nodes
  count = omega (arith, length-append found (source ∷ []), unmarked-set distances source (here_distance + 1) free, s.count)

  walks : (node d : ℕ) → IsMarked (slice_set distances source (Some (here_distance + 1))) node d → (rest : List ℕ) × (length rest ≡ d) × Walk Joined node target rest
  walks node d m = elim (mark_cases distances source (here_distance + 1) free node d m) [
    | inl old ↦ s.walks node d old
    | inr now ↦ (let w : (rest : List ℕ) × (length rest ≡ here_distance) × Walk Joined here target rest = s.walks here here_distance is_here in
        let long : length (here ∷ w.0) ≡ d = omega (arith, w.1, now.1) in
        let walk : Walk Joined node target (here ∷ w.0) = (subst (λ (k : ℕ). Joined k here) now.0 joined, w.2) in
        (here ∷ w.0, long, walk))
  ]

  listed : (node d : ℕ) → IsMarked (slice_set distances source (Some (here_distance + 1))) node d → (i : ℕ) × (slice_get (found ++ source ∷ []) i ≡ Some node)
  listed node d m = elim (mark_cases distances source (here_distance + 1) free node d m) [
    | inl old ↦ (let l : (i : ℕ) × (slice_get found i ≡ Some node) = s.listed node d old in (l.0, get-append_left found (source ∷ []) l.0 node l.1))
    | inr now ↦ (length found, get-push found source ∙ ap (λ (k : ℕ). Some k) now.0)
  ]

  marked : (i node : ℕ) → slice_get (found ++ source ∷ []) i ≡ Some node → IsMarkedWithin (slice_set distances source (Some (here_distance + 1))) node i
  marked i node e = elim (push_cases found source node i e) [
    | inl old ↦ within_stays distances source (here_distance + 1) free node i (s.marked i node old)
    | inr now ↦ (let least : here_distance + 1 ≤ i = omega (arith, early, within, now.0) in
        (here_distance + 1, subst (λ (k : ℕ). IsMarked (slice_set distances source (Some (here_distance + 1))) k (here_distance + 1)) now.1 (mark_new distances source (here_distance + 1) free), least))
  ]

  -- the mark of the new node
  new_mark : (node d : ℕ) → source ≡ node → IsMarked (slice_set distances source (Some (here_distance + 1))) node d → here_distance + 1 ≡ d
  new_mark node d e m = same_mark _ node _ _ (subst (λ (k : ℕ). IsMarked (slice_set distances source (Some (here_distance + 1))) k (here_distance + 1)) e (mark_new distances source (here_distance + 1) free)) m

  -- no mark is past the new one
  most : (node d : ℕ) → IsMarked (slice_set distances source (Some (here_distance + 1))) node d → d ≤ here_distance + 1
  most node d m = elim (mark_cases distances source (here_distance + 1) free node d m) [
    | inl old ↦ s.bound here here_distance node d at_next is_here old
    | inr now ↦ omega (arith, now.1)
  ]

  ordered : (i j near far near_distance far_distance : ℕ) → i ≤ j → slice_get (found ++ source ∷ []) i ≡ Some near → slice_get (found ++ source ∷ []) j ≡ Some far
      → IsMarked (slice_set distances source (Some (here_distance + 1))) near near_distance → IsMarked (slice_set distances source (Some (here_distance + 1))) far far_distance → near_distance ≤ far_distance
  ordered i j near far near_distance far_distance le at_i at_j m n = elim (push_cases found source far j at_j) [
    | inl old ↦ elim (push_cases found source near i at_i) [
      | inl older ↦ s.ordered i j near far near_distance far_distance le older old (in_found i near near_distance older m) (in_found j far far_distance old n)
      | inr now ↦ absurd (omega (arith, slice_get_within found j far old, now.0, le))
    ]
    | inr now ↦ (let last : here_distance + 1 ≡ far_distance = new_mark far far_distance now.1 n in omega (arith, last, most near near_distance m))
  ]

  bound : (node node_distance other d : ℕ) → slice_get (found ++ source ∷ []) next ≡ Some node → IsMarked (slice_set distances source (Some (here_distance + 1))) node node_distance
      → IsMarked (slice_set distances source (Some (here_distance + 1))) other d → d ≤ node_distance + 1
  bound node node_distance other d e m n = elim (push_cases found source node next e) [
    | inl old ↦ (let same : here ≡ node = cc (at_next, old) in
        let mark : IsMarked distances node node_distance = in_found next node node_distance old m in
        let distance : here_distance ≡ node_distance = same_mark distances node _ _ (rw same at is_here) mark in
        omega (arith, distance, most other d n))
    | inr now ↦ absurd (omega (arith, now.0, within))
  ]

  closed : (i node d from : ℕ) → i < next → slice_get (found ++ source ∷ []) i ≡ Some node → IsMarked (slice_set distances source (Some (here_distance + 1))) node d → Joined from node
      → IsMarkedWithin (slice_set distances source (Some (here_distance + 1))) from (d + 1)
  closed i node d from lt e m j = elim (push_cases found source node i e) [
    | inl old ↦ within_stays distances source (here_distance + 1) free from (d + 1) (s.closed i node d from lt old (in_found i node d old m) j)
    | inr now ↦ absurd (omega (arith, now.0, within, lt))
  ]

  pub search-marks : IsSearch Joined nodes target (slice_set distances source (Some (here_distance + 1))) (found ++ source ∷ []) next
  search-marks = record {
    long = length-set distances source (Some (here_distance + 1)) ∙ s.long;
    count = count;
    start = mark_stays distances source (here_distance + 1) free target 0 s.start;
    walks = walks;
    listed = listed;
    marked = marked;
    ordered = ordered;
    bound = bound;
    closed = closed;
  }

-- While the sources of a node are marked: the node at `next` is known, and the sources up to a place are marked.
pub record IsExpanding (Joined : ℕ → ℕ → Type 0) (nodes target : ℕ) (distances : List (Option ℕ)) (found : List ℕ) (next here here_distance : ℕ) (sources : List ℕ) (index : ℕ) : Type 0 where
  pub search : IsSearch Joined nodes target distances found next
  pub at_next : slice_get found next ≡ Some here
  pub is_here : IsMarked distances here here_distance
  pub passed : AreMarked sources index (here_distance + 1) distances

-- one more source
pub expanding-step : (Joined : ℕ → ℕ → Type 0) (nodes target : ℕ) (distances new_distances : List (Option ℕ)) (found new_found : List ℕ) (next here here_distance : ℕ) (sources : List ℕ) (index source : ℕ)
    → IsExpanding Joined nodes target distances found next here here_distance sources index → slice_get sources index ≡ Some source → Joined source here
    → Marks distances found source (here_distance + 1) new_distances new_found → IsExpanding Joined nodes target new_distances new_found next here here_distance sources (index + 1)
expanding-step Joined nodes target distances new_distances found new_found next here here_distance sources index source x e joined (inl free) = rw (free.1, free.2) (record {
  search = search-marks Joined nodes target distances found next here here_distance source x.search x.at_next x.is_here joined free.0;
  at_next = get-append_left found (source ∷ []) next here x.at_next;
  is_here = mark_stays distances source (here_distance + 1) free.0 here here_distance x.is_here;
  passed = passed;
})
  where
    passed : AreMarked sources (index + 1) (here_distance + 1) (slice_set distances source (Some (here_distance + 1)))
    passed k other lt at = elim (eqb_tells k index) [
      | inl s ↦ (let same : source ≡ other = cc (e, rw s.1 at at) in
          let last : here_distance + 1 ≤ here_distance + 1 = omega arith in
          (here_distance + 1, subst (λ (n : ℕ). IsMarked (slice_set distances source (Some (here_distance + 1))) n (here_distance + 1)) same (mark_new distances source (here_distance + 1) free.0), last))
      | inr o ↦ (let less : k < index = omega (arith, lt, o.1) in within_stays distances source (here_distance + 1) free.0 other (here_distance + 1) (x.passed k other less at))
    ]
expanding-step Joined nodes target distances new_distances found new_found next here here_distance sources index source x e joined (inr kept) = rw (kept.2, kept.3) (record {
  search = x.search;
  at_next = x.at_next;
  is_here = x.is_here;
  passed = passed;
})
  where
    passed : AreMarked sources (index + 1) (here_distance + 1) distances
    passed k other lt at = elim (eqb_tells k index) [
      | inl s ↦ (let same : source ≡ other = cc (e, rw s.1 at at) in
          let mark : IsMarked distances other kept.0 = rw same at kept.1 in
          (kept.0, mark, x.search.bound here here_distance other kept.0 x.at_next x.is_here mark))
      | inr o ↦ (let less : k < index = omega (arith, lt, o.1) in x.passed k other less at)
    ]

-- all sources are marked
pub expanding-end : (Joined : ℕ → ℕ → Type 0) (nodes target : ℕ) (distances : List (Option ℕ)) (found : List ℕ) (next here here_distance : ℕ) (sources : List ℕ)
    → ((from : ℕ) → Joined from here → Contains sources from) → IsExpanding Joined nodes target distances found next here here_distance sources (length sources) → IsSearch Joined nodes target distances found (next + 1)
expanding-end Joined nodes target distances found next here here_distance sources all x = record {
  long = x.search.long;
  count = x.search.count;
  start = x.search.start;
  walks = x.search.walks;
  listed = x.search.listed;
  marked = x.search.marked;
  ordered = x.search.ordered;
  bound = bound;
  closed = closed;
}
  where
    bound : (node node_distance other d : ℕ) → slice_get found (next + 1) ≡ Some node → IsMarked distances node node_distance → IsMarked distances other d → d ≤ node_distance + 1
    bound node node_distance other d e m n =
        let later : here_distance ≤ node_distance = x.search.ordered next (next + 1) here node here_distance node_distance (omega arith) x.at_next e x.is_here m in
        omega (arith, later, x.search.bound here here_distance other d x.at_next x.is_here n)

    closed : (i node d from : ℕ) → i < next + 1 → slice_get found i ≡ Some node → IsMarked distances node d → Joined from node → IsMarkedWithin distances from (d + 1)
    closed i node d from lt e m j = elim (eqb_tells i next) [
      | inl s ↦ (let same : here ≡ node = cc (x.at_next, rw s.1 at e) in
          let distance : here_distance ≡ d = same_mark distances node _ _ (rw same at x.is_here) m in
          let c : Contains sources from = all from (subst (λ (k : ℕ). Joined from k) (sym same) j) in
          let at : slice_get sources c.0 ≡ Some from = slice_get-get_or sources c.0 from c.1 ∙ ap (λ (k : ℕ). Some k) c.2 in
          rw distance at (x.passed c.0 from c.1 at))
      | inr o ↦ (let less : i < next = omega (arith, lt, o.1) in x.search.closed i node d from less e m j)
    ]

-- the target alone is found
module _ (Joined : ℕ → ℕ → Type 0) (nodes target : ℕ) (below : target < nodes) where
  set : slice_get {X = Option ℕ} (replicate nodes None) target ≡ Some None
  set = get-replicate-below nodes target None below

  only : (node d : ℕ) → IsMarked (slice_set (replicate nodes None) target (Some 0)) node d → (target ≡ node) × (0 ≡ d)
  only node d m = elim (mark_cases (replicate nodes None) target 0 set node d m) [
    | inl old ↦ (let none : Some d ≡ None = get-replicate nodes node None (Some d) old in cc)
    | inr now ↦ now
  ]

  pub search-begin : IsSearch Joined nodes target (slice_set (replicate nodes None) target (Some 0)) (target ∷ []) 0
  search-begin = record {
    long = length-set {A = Option ℕ} (replicate nodes None) target (Some 0) ∙ length-replicate nodes None;
    count = omega (arith, unmarked-set (replicate nodes None) target 0 set, unmarked-replicate nodes);
    start = mark_new (replicate nodes None) target 0 set;
    walks = λ node d m. ([], (only node d m).1, sym (only node d m).0);
    listed = λ node d m. (0, ap (λ (k : ℕ). Some k) (only node d m).0);
    marked = marked;
    ordered = λ i j near far near_distance far_distance le at_i at_j m n. omega (arith, (only near near_distance m).1);
    bound = λ here here_distance node d e m n. omega (arith, (only node d n).1);
    closed = λ i node d from lt. absurd (omega (arith, lt));
  }
    where
      marked : (i node : ℕ) → slice_get (target ∷ []) i ≡ Some node → IsMarkedWithin (slice_set (replicate nodes None) target (Some 0)) node i
      marked zero node e =
          let same : target ≡ node = cc in
          let least : 0 ≤ 0 = omega arith in
          (0, subst (λ (k : ℕ). IsMarked (slice_set (replicate nodes None) target (Some 0)) k 0) same (mark_new (replicate nodes None) target 0 set), least)
      marked (suc i) node e = cc

-- No walk is shorter than the marks say, where every node found has passed its distance on.
bounded : (Joined : ℕ → ℕ → Type 0) (target : ℕ) (distances : List (Option ℕ)) → IsMarked distances target 0 → ((node d from : ℕ) → IsMarked distances node d → Joined from node → IsMarkedWithin distances from (d + 1))
    → (node : ℕ) (rest : List ℕ) → Walk Joined node target rest → IsMarkedWithin distances node (length rest)
bounded Joined target distances start closed node [] w = (0, rw w start, omega arith)
bounded Joined target distances start closed node (next ∷ rest) w =
    let m : IsMarkedWithin distances next (length rest) = bounded Joined target distances start closed next rest w.1 in
    let n : IsMarkedWithin distances node (m.0 + 1) = closed next m.0 node m.1 w.0 in
    let most : n.0 ≤ length (next ∷ rest) = omega (arith, m.2, n.2) in
    (n.0, n.1, most)

-- all found nodes have passed their distances on
pub search-end : (edges : List (ℕ × ℕ)) (nodes target : ℕ) (distances : List (Option ℕ)) (found : List ℕ) (next : ℕ) → IsSearch (HasEdge edges) nodes target distances found next → length found ≤ next → IsDistances nodes edges target distances
search-end edges nodes target distances found next s all = record { long = s.long; some = some; none = none }
  where
    closed : (node d from : ℕ) → IsMarked distances node d → HasEdge edges from node → IsMarkedWithin distances from (d + 1)
    closed node d from m j =
        let l : (i : ℕ) × (slice_get found i ≡ Some node) = s.listed node d m in
        let before : l.0 < next = omega (arith, slice_get_within found l.0 node l.1, all) in
        s.closed l.0 node d from before l.1 m j

    within : (node : ℕ) (rest : List ℕ) → Walk (HasEdge edges) node target rest → IsMarkedWithin distances node (length rest)
    within node rest w = bounded (HasEdge edges) target distances s.start closed node rest w

    some : (node d : ℕ) → slice_get distances node ≡ Some (Some d) → IsDistance (HasEdge edges) node target d
    some node d m = record {
      reached = s.walks node d m;
      least = λ rest w. (let n : IsMarkedWithin distances node (length rest) = within node rest w in let same : n.0 ≡ d = same_mark distances node _ _ n.1 m in omega (arith, same, n.2));
    }

    none : (node : ℕ) → slice_get distances node ≡ Some None → NoPath (HasEdge edges) node target
    none node m [] p = p
    none node m (first ∷ rest) p =
        let n : IsMarkedWithin distances node (length rest) = within node rest p.1 in
        cc (n.1, m)

-- ---- one node

pub marked_already : (distances : List (Option ℕ)) (found : List ℕ) (node distance : ℕ) (mark : Option ℕ) → slice_get distances node ≡ Some mark → is_some mark ≡ true
    → Marks distances found node distance distances found
marked_already distances found node distance (Some other) at some = inr (other, at, refl, refl)
marked_already distances found node distance None at some = absurd (cc)

pub marked_now : (distances : List (Option ℕ)) (found more : List ℕ) (node distance : ℕ) (mark : Option ℕ) → slice_get distances node ≡ Some mark → is_some mark ≡ false
    → more ≡ found ++ node ∷ [] → Marks distances found node distance (slice_set distances node (Some distance)) more
marked_now distances found more node distance None at none listed = inl (at, refl, listed)
marked_now distances found more node distance (Some other) at none listed = absurd (cc)

-- Rows hold the edges that they were made of, and a row is the targets of its node.
use Rattle.std.proofs.Common.{◌≡◌, ℕ, zero, suc, ◌+◌, ◌-◌, ◌<◌, ◌≤◌, List, [], ◌∷◌, ◌++◌, length, map, get_or, take, drop, refl, ap, sym, ◌∙◌, arith, subst, inl, inr}
use Rattle.std.specs.Prelude.{Contains, All}
use Rattle.std.proofs.Math.ListN.{get_or-append}
use Rattle.std.proofs.Math.Nat.{eq-or-lt_of_le}
use Rattle.std.proofs.Math.Seq.{get_or-append_seam}
use Rattle.std.specs.List.Sorted.{IsStrictlyIncreasing}
use Rattle.std.proofs.lemmas.List.{get_or_default, get_or_read, get_or-take, get_or-drop, length-take-le, length-drop, ext_get_or, length-map}
use Rattle.std.proofs.lemmas.Bool.Decides.{leb_tells}
use Rattle.shade_reach.specs.Digraph.{HasEdge, IsTargets, JoinsNodes}
use Rattle.shade_reach.specs.Rows.{source_at, target_at, IsAscending, IsRowStart, AreRowStarts, IsRows, started, edges_from, edges_of}
use Rattle.shade_reach.proofs.Edges.{StandsAt, has_at, at_has, at_has_as}

started-more : (s : ℕ) (starts : List ℕ) (k : ℕ) → s ≤ k → started (s ∷ starts) k ≡ started starts k + 1
started-more s starts k h = elim (leb_tells s k) [
  | inl t ↦ rw t.0 refl
  | inr f ↦ absurd (omega (arith, h, f.1))
]

started-none : (s : ℕ) (starts : List ℕ) (k : ℕ) → k < s → started (s ∷ starts) k ≡ 0
started-none s starts k h = elim (leb_tells s k) [
  | inl t ↦ absurd (omega (arith, h, t.1))
  | inr f ↦ rw f.0 refl
]

-- the rows that have started start at the place or before it
started-before : (starts : List ℕ) (k i : ℕ) → i < started starts k → get_or starts i 0 ≤ k
started-before [] k i h = absurd (omega (arith, h))
started-before (s ∷ starts) k zero h = elim (leb_tells s k) [
  | inl t ↦ t.1
  | inr f ↦ (let none : 0 < 0 = rw (started-none s starts k f.1) at h in absurd (omega (arith, none)))
]
started-before (s ∷ starts) k (suc i) h = elim (leb_tells s k) [
  | inl t ↦ (let less : suc i < started starts k + 1 = rw (started-more s starts k t.1) at h in started-before starts k i (omega (arith, less)))
  | inr f ↦ (let none : suc i < 0 = rw (started-none s starts k f.1) at h in absurd (omega (arith, none)))
]

-- the next row starts after the place
started-next : (starts : List ℕ) (k : ℕ) → started starts k < length starts → k < get_or starts (started starts k) 0
started-next [] k h = absurd (omega (arith, h))
started-next (s ∷ starts) k h = elim (leb_tells s k) [
  | inl t ↦ (let more : started (s ∷ starts) k ≡ suc (started starts k) = started-more s starts k t.1 ∙ omega arith in
      let within : started starts k < length starts = omega (arith, more, h) in
      rw more (started-next starts k within))
  | inr f ↦ rw (started-none s starts k f.1) f.1
]

length-edges_from : (starts : List ℕ) (k : ℕ) (targets : List ℕ) → length (edges_from starts k targets) ≡ length targets
length-edges_from starts k [] = refl
length-edges_from starts k (t ∷ targets) = ap suc (length-edges_from starts (k + 1) targets)

get-edges_from : (starts : List ℕ) (k : ℕ) (targets : List ℕ) (i : ℕ) → i < length targets → get_or (edges_from starts k targets) i (0, 0) ≡ (started starts (k + i) - 1, get_or targets i 0)
get-edges_from starts k [] i h = absurd (omega (arith, h))
get-edges_from starts k (t ∷ targets) zero h =
    let same : k ≡ k + 0 = omega arith in
    ap (λ (n : ℕ). (started starts n - 1, t)) same
get-edges_from starts k (t ∷ targets) (suc i) h =
    let same : k + 1 + i ≡ k + suc i = omega arith in
    get-edges_from starts (k + 1) targets i (omega (arith, h)) ∙ ap (λ (n : ℕ). (started starts n - 1, get_or targets i 0)) same

pub length-edges_of : (starts targets : List ℕ) → length (edges_of starts targets) ≡ length targets
length-edges_of starts targets = length-edges_from starts 0 targets

pub source-edges_of : (starts targets : List ℕ) (k : ℕ) → k < length targets → source_at (edges_of starts targets) k ≡ started starts k - 1
source-edges_of starts targets k h =
    let same : 0 + k ≡ k = omega arith in
    ap (λ (p : ℕ × ℕ). p.0) (get-edges_from starts 0 targets k h) ∙ ap (λ (n : ℕ). started starts n - 1) same

pub target-edges_of : (starts targets : List ℕ) (k : ℕ) → k < length targets → target_at (edges_of starts targets) k ≡ get_or targets k 0
target-edges_of starts targets k h = ap (λ (p : ℕ × ℕ). p.1) (get-edges_from starts 0 targets k h)

-- where rows start as they should, one less than the rows started is the edge's source
started-source : (edges : List (ℕ × ℕ)) (nodes : ℕ) (starts : List ℕ) → AreRowStarts edges nodes starts → JoinsNodes nodes edges
    → (k : ℕ) → k < length edges → started starts k - 1 ≡ source_at edges k
started-source edges nodes starts a joined k h = omega (arith, exact)
  where
    from : ℕ
    from = source_at edges k

    below : from < nodes
    below = (joined _ _ (at_has edges k h)).0

    here : get_or starts from 0 ≤ k
    here = elim (leb_tells (get_or starts from 0) k) [
      | inl t ↦ t.1
      | inr f ↦ (let le : from ≤ nodes = omega (arith, below) in let lt : from < from = (a.each from le).before k f.1 in absurd (omega (arith, lt)))
    ]

    past : k < get_or starts (from + 1) 0
    past = elim (leb_tells (get_or starts (from + 1) 0) k) [
      | inl t ↦ (let le : from + 1 ≤ nodes = omega (arith, below) in let lt : from + 1 ≤ from = (a.each (from + 1) le).after k t.1 h in absurd (omega (arith, lt)))
      | inr f ↦ f.1
    ]

    not_above : started starts k ≤ from + 1
    not_above = elim (leb_tells (started starts k) (from + 1)) [
      | inl t ↦ t.1
      | inr f ↦ (let le : get_or starts (from + 1) 0 ≤ k = started-before starts k (from + 1) f.1 in absurd (omega (arith, le, past)))
    ]

    not_below : from < started starts k
    not_below = elim (leb_tells (started starts k) from) [
      | inl t ↦ (let within : started starts k < length starts = omega (arith, t.1, below, a.long) in
          let le : started starts k ≤ nodes = omega (arith, t.1, below) in
          let lt : source_at edges k < started starts k = (a.each (started starts k) le).before k (started-next starts k within) in
          absurd (omega (arith, lt, t.1)))
      | inr f ↦ f.1
    ]

    exact : started starts k ≡ from + 1
    exact = omega (arith, not_above, not_below)

-- rows hold the edges that they were made of
pub edges_of_rows : (edges : List (ℕ × ℕ)) (nodes : ℕ) (starts : List ℕ) → AreRowStarts edges nodes starts → JoinsNodes nodes edges → edges_of starts (map (λ (p : ℕ × ℕ). p.1) edges) ≡ edges
edges_of_rows edges nodes starts a joined = ext_get_or (0, 0) (edges_of starts targets) edges long each
  where
    targets : List ℕ
    targets = map (λ (p : ℕ × ℕ). p.1) edges

    as_long : length targets ≡ length edges
    as_long = length-map edges (λ (p : ℕ × ℕ). p.1)

    long : length (edges_of starts targets) ≡ length edges
    long = length-edges_of starts targets ∙ as_long

    second : (es : List (ℕ × ℕ)) (k : ℕ) → get_or (map (λ (p : ℕ × ℕ). p.1) es) k 0 ≡ (get_or es k (0, 0)).1
    second [] k = refl
    second (e ∷ es) zero = refl
    second (e ∷ es) (suc k) = second es k

    each : (k : ℕ) → k < length (edges_of starts targets) → get_or (edges_of starts targets) k (0, 0) ≡ get_or edges k (0, 0)
    each k h =
        let here : k < length edges = omega (arith, h, long) in
        let within : k < length targets = omega (arith, here, as_long) in
        let s : source_at (edges_of starts targets) k ≡ source_at edges k = source-edges_of starts targets k within ∙ started-source edges nodes starts a joined k here in
        let t : target_at (edges_of starts targets) k ≡ target_at edges k = target-edges_of starts targets k within ∙ second edges k in
        λ i. (s i, t i)

-- what stands between the starts of a row and of the next
pub record IsRowAt (starts targets : List ℕ) (node start end : ℕ) : Type 0 where
  pub in_order : start ≤ end
  pub within : end ≤ length targets
  pub row : IsTargets (edges_of starts targets) node (take (end - start) (drop start targets))
  pub below : All (λ (target : ℕ). target < length starts - 1) (take (end - start) (drop start targets))

pub row_at : (starts targets : List ℕ) → IsRows starts targets → (node start end : ℕ) → node < length starts - 1 → start ≡ get_or starts node start → end ≡ get_or starts (node + 1) end → IsRowAt starts targets node start end
row_at starts targets r node start end below is_start is_end = record { in_order = in_order; within = within; row = record { ascending = ascending; ends = λ to. (there to, back to) }; below = each_below }
  where
    edges : List (ℕ × ℕ)
    edges = edges_of starts targets

    row : List ℕ
    row = take (end - start) (drop start targets)

    this_start : IsRowStart edges node start
    this_start = subst (λ (s : ℕ). IsRowStart edges node s) (sym (get_or_read starts node start (omega (arith, below)) is_start 0)) (r.rows.each node (omega (arith, below)))

    next_start : IsRowStart edges (node + 1) end
    next_start = subst (λ (s : ℕ). IsRowStart edges (node + 1) s) (sym (get_or_read starts (node + 1) end (omega (arith, below)) is_end 0)) (r.rows.each (node + 1) (omega (arith, below)))

    as_long : length edges ≡ length targets
    as_long = length-edges_of starts targets

    within : end ≤ length targets
    within = omega (arith, next_start.within, as_long)

    in_order : start ≤ end
    in_order = elim (leb_tells start end) [
      | inl t ↦ t.1
      | inr f ↦ (let short : end < length edges = omega (arith, f.1, this_start.within) in
          let high : node + 1 ≤ source_at edges end = next_start.after end (omega arith) short in
          let low : source_at edges end < node = this_start.before end f.1 in
          absurd (omega (arith, high, low)))
    ]

    long : length row ≡ end - start
    long = length-take-le (end - start) (drop start targets) (omega (arith, length-drop start targets, within))

    get-row : (k d : ℕ) → k < length row → get_or row k d ≡ target_at edges (start + k)
    get-row k d h =
        let inside : k < end - start = omega (arith, long, h) in
        let place : start + k < length targets = omega (arith, inside, within) in
        get_or_default row k d 0 h ∙ get_or-take (end - start) (drop start targets) k 0 inside ∙ get_or-drop start targets k 0 ∙ sym (target-edges_of starts targets (start + k) place)

    source-row : (k : ℕ) → k < length row → source_at edges (start + k) ≡ node
    source-row k h =
        let place : start + k < length edges = omega (arith, long, h, within, as_long) in
        let low : node ≤ source_at edges (start + k) = this_start.after (start + k) (omega arith) place in
        let high : source_at edges (start + k) < node + 1 = next_start.before (start + k) (omega (arith, long, h)) in
        omega (arith, low, high)

    in_row : (k : ℕ) → k < length row → StandsAt edges node (target_at edges (start + k)) (start + k)
    in_row k h = record { within = omega (arith, long, h, within, as_long); source = source-row k h; target = refl }

    ascending : IsStrictlyIncreasing row
    ascending k h =
        let here : k < length row = omega (arith, h) in
        let place : start + (k + 1) < length edges = omega (arith, long, h, within, as_long) in
        let less : target_at edges (start + k) < target_at edges (start + (k + 1)) = r.ascending.targets (start + k) (start + (k + 1)) (omega arith) place (source-row k here ∙ sym (source-row (k + 1) h)) in
        rw (get-row k 0 here, get-row (k + 1) 0 h) less

    there : (to : ℕ) → Contains row to → HasEdge edges node to
    there to c =
        let is : target_at edges (start + c.0) ≡ to = sym (get-row c.0 to c.1) ∙ c.2 in
        subst (λ (t : ℕ). HasEdge edges node t) is (at_has_as edges node (target_at edges (start + c.0)) (start + c.0) (in_row c.0 c.1))

    back : (to : ℕ) → HasEdge edges node to → Contains row to
    back to h =
        let s : (k : ℕ) × StandsAt edges node to k = has_at edges node to h in
        let from_start : start ≤ s.0 = elim (leb_tells start s.0) [ inl t ↦ t.1 | inr f ↦ (let low : source_at edges s.0 < node = this_start.before s.0 f.1 in absurd (omega (arith, low, s.1.source))) ] in
        let to_end : s.0 < end = elim (leb_tells end s.0) [ inl t ↦ (let high : node + 1 ≤ source_at edges s.0 = next_start.after s.0 t.1 s.1.within in absurd (omega (arith, high, s.1.source))) | inr f ↦ f.1 ] in
        let inside : s.0 - start < length row = omega (arith, long, from_start, to_end) in
        let place : start + (s.0 - start) ≡ s.0 = omega (arith, from_start) in
        (s.0 - start, inside, get-row (s.0 - start) to inside ∙ ap (λ (k : ℕ). target_at edges k) place ∙ s.1.target)

    each_below : (k d : ℕ) → k < length row → get_or row k d < length starts - 1
    each_below k d h = rw (get-row k d h) (r.joined node _ (at_has_as edges node _ (start + k) (in_row k h))).1

pub rows_made : (edges : List (ℕ × ℕ)) (nodes : ℕ) (starts : List ℕ) → IsAscending edges → AreRowStarts edges nodes starts → JoinsNodes nodes edges → IsRows starts (map (λ (p : ℕ × ℕ). p.1) edges)
rows_made edges nodes starts asc a joined = made (omega (arith, a.long))
  where
    made : length starts - 1 ≡ nodes → IsRows starts (map (λ (p : ℕ × ℕ). p.1) edges)
    made is = record {
      ascending = rw (edges_of_rows edges nodes starts a joined) asc;
      rows = rw (edges_of_rows edges nodes starts a joined, is) a;
      joined = rw (edges_of_rows edges nodes starts a joined, is) joined;
    }

-- ---- the starts of rows, one after another

pub first_start : (edges : List (ℕ × ℕ)) → IsRowStart edges 0 0
first_start edges = record { within = omega arith; before = λ k h. absurd (omega (arith, h)); after = λ k from within. omega arith }

pub starts_begin : (edges : List (ℕ × ℕ)) (starts : List ℕ) → starts ≡ 0 ∷ [] → (node : ℕ) → node ≤ 0 → IsRowStart edges node (get_or starts node 0)
starts_begin edges starts is zero h = subst (λ x. IsRowStart edges 0 (get_or x 0 0)) (sym is) (first_start edges)
starts_begin edges starts is (suc node) h = absurd (omega (arith, h))

pub starts_more : (edges : List (ℕ × ℕ)) (starts more : List ℕ) (last start : ℕ) → length starts ≡ last + 1 → more ≡ starts ++ start ∷ []
    → ((node : ℕ) → node ≤ last → IsRowStart edges node (get_or starts node 0)) → IsRowStart edges (last + 1) start
    → (node : ℕ) → node ≤ last + 1 → IsRowStart edges node (get_or more node 0)
starts_more edges starts more last start long is each here node h =
    subst (λ x. IsRowStart edges node (get_or x node 0)) (sym is)
    (elim (eq-or-lt_of_le h) as (λ _. IsRowStart edges node (get_or (starts ++ start ∷ []) node 0)) [
      | inl same ↦ (
          let at : get_or (starts ++ start ∷ []) (last + 1) 0 ≡ start = ap (λ n. get_or (starts ++ start ∷ []) n 0) (sym long) ∙ get_or-append_seam starts start [] 0 in
          subst (λ n. IsRowStart edges n (get_or (starts ++ start ∷ []) n 0)) (sym same) (subst (IsRowStart edges (last + 1)) (sym at) here))
      | inr below ↦ subst (IsRowStart edges node) (sym (get_or-append starts (start ∷ []) 0 node (omega (arith, below, long)))) (each node (omega (arith, below)))
    ])

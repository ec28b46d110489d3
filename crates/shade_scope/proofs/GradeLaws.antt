-- The walk over the events of a tree finds at each node the severity of the nearest range around it.
use Rattle.std.proofs.Common.{◌≡◌, refl, sym, ap, ◌∙◌, subst, ℕ, ◌+◌, ◌<◌, ◌≤◌, Bool, true, false, List, [], ◌∷◌, ◌++◌, length, map, arith, append_assoc, Option, Some, None, inl, inr}
use Rattle.std.specs.Prelude.{◌⊎◌, ◌↔◌, Contains, IsTrue, slice_get, slice_set, if◌then◌else◌}
use Rattle.std.proofs.lemmas.Bool.{true≢false}
use Rattle.std.proofs.lemmas.List.{append-nil, map-append, length-map, length-set}
use Rattle.std.proofs.lemmas.List.Elements.{Contains-append_left, Contains-append_right, Contains-append_cases, Contains-push, Contains-push_cases}
use Rattle.std.proofs.lemmas.Option.{slice_get-get_or}
use Rattle.std.specs.Prelude.{slice_index_or}
use Rattle.shade_base.specs.declared.severity.Severity.{Severity}
use Rattle.shade_base.specs.declared.severity.Severity.TheVariants as severity
use Rattle.shade_ast.specs.declared.tree.Tree.{Tree}
use Rattle.shade_ast.specs.Nodes.{CountFrom, tree_nodes}
use Rattle.shade_events.specs.declared.event.Event.{Event}
use Rattle.shade_events.specs.declared.event.Event.TheVariants as event
use Rattle.shade_events.specs.declared.filters.Filter.{Filter}
use Rattle.shade_events.specs.Events.{Es, tree_events}
use Rattle.shade_scope.specs.declared.ranges.Ranges.{Ranges}
use Rattle.shade_scope.specs.Ranges.{AreSeverities, IsNumbered, IsSeverity, IsSeverityAt, LiesWithin, Piece, Range, Rules, is_uniformity, later, plain, ruling, severity_at, severity_or, tree_piece}
use Rattle.shade_scope.specs.Grades.{blank, covered, given, graded, grades, outside}
use Rattle.shade_scope.specs.Resolved.{event_nodes}
use Rattle.shade_scope.proofs.EndLaws.{last_more, without_more}
use Rattle.shade_scope.proofs.Walks.{Told, Walk, at, drop, is_other, next, none, within}
use Rattle.shade_scope.proofs.TreeWalks.{tree_told}
use Rattle.shade_scope.proofs.NodeLaws.{Any, blank_nodes, tree_event_nodes}
use Rattle.shade_reach.proofs.SearchLaws.{get-set_other, get-set_same}

-- ---- members of lists

empty : {A : Type 0} (x : A) → Contains [] x → ⊥
empty x c = omega (arith, c.1)

one_is : {A : Type 0} (x y : A) → Contains (x ∷ []) y → x ≡ y
one_is x y c = elim (Contains-push_cases [] x y c) [ inl e ↦ absurd (empty y e) | inr e ↦ e ]

cons_cases : {A : Type 0} (x : A) (xs : List A) (y : A) → Contains (x ∷ xs) y → (x ≡ y) ⊎ Contains xs y
cons_cases x xs y c = elim (Contains-append_cases (x ∷ []) xs y c) [ inl h ↦ inl (one_is x y h) | inr t ↦ inr t ]

head_in : {A : Type 0} (x : A) (xs : List A) → Contains (x ∷ xs) x
head_in x xs = Contains-append_left (x ∷ []) xs x (Contains-push [] x)

tail_in : {A : Type 0} (x : A) (xs : List A) (y : A) → Contains xs y → Contains (x ∷ xs) y
tail_in x xs y c = Contains-append_right (x ∷ []) xs y c

-- ---- numbers that count on

count_split : (xs ys : List ℕ) (from to : ℕ) → CountFrom from (xs ++ ys) to → (mid : ℕ) × CountFrom from xs mid × CountFrom mid ys to
count_split [] ys from to c = (from, refl, c)
count_split (x ∷ xs) ys from to c = let r : (mid : ℕ) × CountFrom (from + 1) xs mid × CountFrom mid ys to = count_split xs ys (from + 1) to c.1 in (r.0, (c.0, r.1), r.2)

count_length : (ns : List ℕ) (from to : ℕ) → CountFrom from ns to → from + length ns ≡ to
count_length [] from to c = omega (arith, c)
count_length (n ∷ ns) from to c = omega (arith, count_length ns (from + 1) to c.1)

count_low : (ns : List ℕ) (from to n : ℕ) → CountFrom from ns to → Contains ns n → from ≤ n
count_low [] from to n c m = absurd (empty n m)
count_low (x ∷ ns) from to n c m = elim (cons_cases x ns n m) [ inl e ↦ omega (arith, e, c.0) | inr t ↦ omega (arith, count_low ns (from + 1) to n c.1 t) ]

pub count_high : (ns : List ℕ) (from to n : ℕ) → CountFrom from ns to → Contains ns n → n < to
count_high [] from to n c m = absurd (empty n m)
count_high (x ∷ ns) from to n c m = elim (cons_cases x ns n m) [ inl e ↦ omega (arith, e, c.0, count_length ns (from + 1) to c.1) | inr t ↦ count_high ns (from + 1) to n c.1 t ]

-- two pieces that count on have no node in common
apart : (xs ys : List ℕ) (from mid to n : ℕ) → CountFrom from xs mid → CountFrom mid ys to → Contains xs n → Contains ys n → ⊥
apart xs ys from mid to n c d a b = omega (arith, count_high xs from mid n c a, count_low ys mid to n d b)

-- ---- ranges

range_nodes : {K : ℕ → Type 0} {a b : Es} {p : Piece} → Walk K a b p → (r : Range) → Contains p.ranges r → (n : ℕ) → Contains r.nodes n → Contains p.nodes n
range_nodes none r c n m = absurd (empty r c)
range_nodes (at k) r c n m = absurd (empty r c)
range_nodes (next {p = p} {q = q} x y) r c n m = elim (Contains-append_cases p.ranges q.ranges r c) [
  | inl l ↦ Contains-append_left p.nodes q.nodes n (range_nodes x r l n m)
  | inr l ↦ Contains-append_right p.nodes q.nodes n (range_nodes y r l n m)
]
range_nodes (drop e ok known_number x) r c n m = range_nodes x r c n m
range_nodes (within {p = p} ns fs few x is y) r c n m = elim (cons_cases (record { nodes = p.nodes; filters = fs }) p.ranges r c) [
  | inl e ↦ Contains-append_right ns p.nodes n (subst (λ (z : Range). Contains z.nodes n) (sym e) m)
  | inr l ↦ Contains-append_right ns p.nodes n (range_nodes y r l n m)
]

module _ (names : List (List ℕ)) where
  -- a range with a filter leaves out a node of its piece: one that the filter comes from
  outer_node : {K : ℕ → Type 0} {a b : Es} {p : Piece} → Walk K a b p → (from to : ℕ) → CountFrom from p.nodes to → (r : Range) → Contains p.ranges r → (t : Severity) → ruling names r.filters ≡ Some t
      → (m : ℕ) × Contains p.nodes m × (Contains r.nodes m → ⊥)
  outer_node none from to k r c t g = absurd (empty r c)
  outer_node (at n) from to k r c t g = absurd (empty r c)
  outer_node (next {p = p} {q = q} x y) from to k r c t g =
      let s : (mid : ℕ) × CountFrom from p.nodes mid × CountFrom mid q.nodes to = count_split p.nodes q.nodes from to k in
      elim (Contains-append_cases p.ranges q.ranges r c) [
        | inl l ↦ (let o : (m : ℕ) × Contains p.nodes m × (Contains r.nodes m → ⊥) = outer_node x from s.0 s.1 r l t g in (o.0, Contains-append_left p.nodes q.nodes o.0 o.1, o.2))
        | inr l ↦ (let o : (m : ℕ) × Contains q.nodes m × (Contains r.nodes m → ⊥) = outer_node y s.0 to s.2 r l t g in (o.0, Contains-append_right p.nodes q.nodes o.0 o.1, o.2))
      ]
  outer_node (drop e ok known_number x) from to k r c t g = outer_node x from to k r c t g
  outer_node (within {p = p} ns fs few x is y) from to k r c t g =
      let s : (mid : ℕ) × CountFrom from ns mid × CountFrom mid p.nodes to = count_split ns p.nodes from to k in
      elim (cons_cases (record { nodes = p.nodes; filters = fs }) p.ranges r c) [
        | inl e ↦ begun ns s.0 s.1 s.2 (some_filter fs (ap (λ (z : Range). ruling names z.filters) e ∙ g)) few (sym (ap (λ (z : Range). z.nodes) e))
        | inr l ↦ (let o : (m : ℕ) × Contains p.nodes m × (Contains r.nodes m → ⊥) = outer_node y s.0 to s.2 r l t g in (o.0, Contains-append_right ns p.nodes o.0 o.1, o.2))
      ]
    where
      some_filter : (l : List Filter) → ruling names l ≡ Some t → 1 ≤ length l
      some_filter [] e = absurd (let bad : None ≡ Some t = e in cc)
      some_filter (f ∷ l) e = omega arith

      begun : (hs : List ℕ) (mid : ℕ) → CountFrom from hs mid → CountFrom mid p.nodes to → 1 ≤ length fs → length fs ≤ length hs → r.nodes ≡ p.nodes
          → (m : ℕ) × Contains (hs ++ p.nodes) m × (Contains r.nodes m → ⊥)
      begun [] mid a b one le same = absurd (omega (arith, one, le))
      begun (h ∷ hs) mid a b one le same =
          (h, head_in h (hs ++ p.nodes), λ z. apart (h ∷ hs) p.nodes from mid to h a b (head_in h hs) (subst (λ (l : List ℕ). Contains l h) same z))

  -- of ranges with filters around a node no two lie within each other
  one_range : {K : ℕ → Type 0} {a b : Es} {p : Piece} → Walk K a b p → (from to : ℕ) → CountFrom from p.nodes to → (r q : Range) → Contains p.ranges r → Contains p.ranges q
      → (n : ℕ) → Contains r.nodes n → Contains q.nodes n → (t u : Severity) → ruling names r.filters ≡ Some t → ruling names q.filters ≡ Some u
      → LiesWithin r q → LiesWithin q r → r ≡ q
  one_range none from to k r q c d n m o t u g h v w = absurd (empty r c)
  one_range (at i) from to k r q c d n m o t u g h v w = absurd (empty r c)
  one_range (next {p = p} {q = p2} x y) from to k r q c d n m o t u g h v w =
      let s : (mid : ℕ) × CountFrom from p.nodes mid × CountFrom mid p2.nodes to = count_split p.nodes p2.nodes from to k in
      elim (Contains-append_cases p.ranges p2.ranges r c) [
        | inl l ↦ elim (Contains-append_cases p.ranges p2.ranges q d) [
          | inl j ↦ one_range x from s.0 s.1 r q l j n m o t u g h v w
          | inr j ↦ absurd (apart p.nodes p2.nodes from s.0 to n s.1 s.2 (range_nodes x r l n m) (range_nodes y q j n o))
        ]
        | inr l ↦ elim (Contains-append_cases p.ranges p2.ranges q d) [
          | inl j ↦ absurd (apart p.nodes p2.nodes from s.0 to n s.1 s.2 (range_nodes x q j n o) (range_nodes y r l n m))
          | inr j ↦ one_range y s.0 to s.2 r q l j n m o t u g h v w
        ]
      ]
  one_range (drop e ok known_number x) from to k r q c d n m o t u g h v w = one_range x from to k r q c d n m o t u g h v w
  one_range (within {p = p} ns fs few x is y) from to k r q c d n m o t u g h v w =
      let s : (mid : ℕ) × CountFrom from ns mid × CountFrom mid p.nodes to = count_split ns p.nodes from to k in
      let outer : Range = record { nodes = p.nodes; filters = fs } in
      elim (cons_cases outer p.ranges r c) [
        | inl e ↦ elim (cons_cases outer p.ranges q d) [
          | inl f ↦ sym e ∙ f
          | inr j ↦ (
              let z : (i : ℕ) × Contains p.nodes i × (Contains q.nodes i → ⊥) = outer_node y s.0 to s.2 q j u h in
              absurd (z.2 (v z.0 (subst (λ (a : Range). Contains a.nodes z.0) e z.1))))
        ]
        | inr l ↦ elim (cons_cases outer p.ranges q d) [
          | inl f ↦ (
              let z : (i : ℕ) × Contains p.nodes i × (Contains r.nodes i → ⊥) = outer_node y s.0 to s.2 r l t g in
              absurd (z.2 (w z.0 (subst (λ (a : Range). Contains a.nodes z.0) f z.1))))
          | inr j ↦ one_range y s.0 to s.2 r q l j n m o t u g h v w
        ]
      ]

  -- so the severity at a node is one
  one_severity : {K : ℕ → Type 0} {a b : Es} {p : Piece} → Walk K a b p → (from to : ℕ) → CountFrom from p.nodes to → (out : Severity) (n : ℕ) (s t : Severity)
      → IsSeverity names p.ranges out n s → IsSeverity names p.ranges out n t → s ≡ t
  one_severity x from to k out n s t (inl a) (inl b) =
      let same : a.range ≡ b.range =
      one_range x from to k a.range b.range a.rules.stands b.rules.stands n a.rules.holds b.rules.holds s t a.rules.gives b.rules.gives (a.innermost b.range t b.rules) (b.innermost a.range s a.rules) in
      let e : Some s ≡ Some t = sym a.rules.gives ∙ ap (λ (z : Range). ruling names z.filters) same ∙ b.rules.gives in
      cc
  one_severity x from to k out n s t (inl a) (inr b) = absurd (b.0 a.range s a.rules)
  one_severity x from to k out n s t (inr a) (inl b) = absurd (a.0 b.range t b.rules)
  one_severity x from to k out n s t (inr a) (inr b) = a.1 ∙ sym b.1

  -- among other ranges that have the same filters around a node
  same_rules : (rs qs : List Range) (out : Severity) (n : ℕ) (s : Severity) → ((r : Range) (t : Severity) → Rules names rs n r t → Rules names qs n r t)
      → ((r : Range) (t : Severity) → Rules names qs n r t → Rules names rs n r t) → IsSeverity names rs out n s → IsSeverity names qs out n s
  same_rules rs qs out n s on back (inl a) = inl (record { range = a.range; rules = on a.range s a.rules; innermost = λ other t u. a.innermost other t (back other t u) })
  same_rules rs qs out n s on back (inr a) = inr (λ r t u. a.0 r t (back r t u), a.1)

  -- ---- the walk

  abbrev pair_of : Severity → Event → List (ℕ × Severity)
  pair_of s (event.Node n) = (n, s) ∷ []
  pair_of s _ = []

  abbrev written : Ranges → Es → List (ℕ × Severity)
  written r [] = []
  written r (e ∷ es) = pair_of r.current e ++ written (covered names r e) es

  abbrev numbers : List (ℕ × Severity) → List ℕ
  numbers pairs = map (λ x. x.0) pairs

  pair_in : (pairs : List (ℕ × Severity)) (n : ℕ) → Contains (numbers pairs) n → (s : Severity) × Contains pairs (n, s)
  pair_in [] n c = absurd (empty n c)
  pair_in ((m, s) ∷ pairs) n c = elim (cons_cases m (numbers pairs) n c) [
    | inl e ↦ (s, subst (λ (z : ℕ). Contains ((m, s) ∷ pairs) (z, s)) e (head_in (m, s) pairs))
    | inr t ↦ (let r : (v : Severity) × Contains pairs (n, v) = pair_in pairs n t in (r.0, tail_in (m, s) pairs (n, r.0) r.1))
  ]

  number_in : (pairs : List (ℕ × Severity)) (n : ℕ) (s : Severity) → Contains pairs (n, s) → Contains (numbers pairs) n
  number_in [] n s c = absurd (empty (n, s) c)
  number_in ((m, v) ∷ pairs) n s c = elim (cons_cases (m, v) pairs (n, s) c) [
    | inl e ↦ subst (λ (z : ℕ × Severity). Contains (m ∷ numbers pairs) z.0) e (head_in m (numbers pairs))
    | inr t ↦ tail_in m (numbers pairs) n (number_in pairs n s t)
  ]

  -- what is written from some events on up to those behind a piece
  record Written (r : Ranges) (a b : Es) (p : Piece) : Type 0 where
    pairs : List (ℕ × Severity)
    told : written r a ≡ pairs ++ written r b
    nodes : numbers pairs ≡ p.nodes
    right : (from to : ℕ) → CountFrom from p.nodes to → (n : ℕ) (s : Severity) → Contains pairs (n, s) → IsSeverity names p.ranges r.current n s

  other_written : (e : Event) (r : Ranges) (es : Es) → IsTrue (is_other e) → written r (e ∷ es) ≡ written r es
  other_written (event.Node n) r es ok = absurd (true≢false (sym ok))
  other_written event.Covers r es ok = absurd (true≢false (sym ok))
  other_written (event.Filters f) r es ok = absurd (true≢false (sym ok))
  other_written event.Uncovers r es ok = absurd (true≢false (sym ok))
  other_written _ r es ok = refl

  -- the severity that filters leave
  abbrev left_by : Severity → List Filter → Severity
  left_by current [] = current
  left_by current (f ∷ fs) = left_by (given current (is_uniformity names f.rule) f.severity) fs

  abbrev or_outer : Severity → Option Severity → Severity
  or_outer current None = current
  or_outer current (Some s) = s

  left_is : (current : Severity) (fs : List Filter) → left_by current fs ≡ or_outer current (ruling names fs)
  left_is current [] = refl
  left_is current (f ∷ fs) = left_is (given current (is_uniformity names f.rule) f.severity) fs ∙ chosen (is_uniformity names f.rule) (ruling names fs)
    where
      chosen : (b : Bool) (o : Option Severity) → or_outer (given current b f.severity) o ≡ or_outer current (later (if b then Some f.severity else None) o)
      chosen true None = refl
      chosen false None = refl
      chosen true (Some s) = refl
      chosen false (Some s) = refl

  filters_written : (r : Ranges) (fs : List Filter) (es : Es) → written r (map event.Filters fs ++ es) ≡ written (record { current = left_by r.current fs; outer = r.outer }) es
  filters_written r [] es = refl
  filters_written r (f ∷ fs) es = filters_written (record { current = given r.current (is_uniformity names f.rule) f.severity; outer = r.outer }) fs es

  joined_told : (u v x y z : List (ℕ × Severity)) → x ≡ u ++ y → y ≡ v ++ z → x ≡ (u ++ v) ++ z
  joined_told u v x y z e f = e ∙ ap (λ l. u ++ l) f ∙ sym (append_assoc u v z)

  writes : {K : ℕ → Type 0} {a b : Es} {p : Piece} (r : Ranges) → Walk K a b p → Written r a b p
  writes r none = record { pairs = []; told = refl; nodes = refl; right = λ from to k n s c. absurd (empty (n, s) c) }
  writes r (at m) = record {
    pairs = (m, r.current) ∷ [];
    told = refl;
    nodes = refl;
    right =
        λ from to k n s c.
        let e : (m, r.current) ≡ (n, s) = one_is (m, r.current) (n, s) c in
        inr (λ q t u. empty q u.stands, ap (λ (z : ℕ × Severity). z.1) (sym e));
  }
  writes r (next {p = p} {q = q} x y) =
      let u : Written r _ _ p = writes r x in
      let v : Written r _ _ q = writes r y in
      record {
        pairs = u.pairs ++ v.pairs;
        told = joined_told u.pairs v.pairs _ _ _ u.told v.told;
        nodes = map-append (λ z. z.0) u.pairs v.pairs ∙ (λ i. u.nodes i ++ v.nodes i);
        right =
            λ from to k n s c.
            let d : (mid : ℕ) × CountFrom from p.nodes mid × CountFrom mid q.nodes to = count_split p.nodes q.nodes from to k in
            elim (Contains-append_cases u.pairs v.pairs (n, s) c) [
              | inl l ↦ (
                  let here : Contains p.nodes n = subst (λ (z : List ℕ). Contains z n) u.nodes (number_in u.pairs n s l) in
                  same_rules p.ranges (p.ranges ++ q.ranges) r.current n s
                  (λ g t h. record { stands = Contains-append_left p.ranges q.ranges g h.stands; holds = h.holds; gives = h.gives })
                  (λ g t h. elim (Contains-append_cases p.ranges q.ranges g h.stands) [
                    | inl j ↦ record { stands = j; holds = h.holds; gives = h.gives }
                    | inr j ↦ absurd (apart p.nodes q.nodes from d.0 to n d.1 d.2 here (range_nodes y g j n h.holds))
                  ])
                  (u.right from d.0 d.1 n s l))
              | inr l ↦ (
                  let here : Contains q.nodes n = subst (λ (z : List ℕ). Contains z n) v.nodes (number_in v.pairs n s l) in
                  same_rules q.ranges (p.ranges ++ q.ranges) r.current n s
                  (λ g t h. record { stands = Contains-append_right p.ranges q.ranges g h.stands; holds = h.holds; gives = h.gives })
                  (λ g t h. elim (Contains-append_cases p.ranges q.ranges g h.stands) [
                    | inl j ↦ absurd (apart p.nodes q.nodes from d.0 to n d.1 d.2 (range_nodes x g j n h.holds) here)
                    | inr j ↦ record { stands = j; holds = h.holds; gives = h.gives }
                  ])
                  (v.right d.0 to d.2 n s l))
            ];
      }
  writes r (drop {b = b} {p = p} e ok known_number x) =
      let u : Written r _ _ p = writes r x in
      record { pairs = u.pairs; told = u.told ∙ ap (λ l. u.pairs ++ l) (other_written e r b ok); nodes = u.nodes; right = u.right }
  writes r (within {b = b} {c = rest} {d = behind} {p = p} ns fs few x is y) =
      let u : Written r _ _ (plain ns) = writes r x in
      let inner : Ranges = record { current = left_by r.current fs; outer = r.outer ++ r.current ∷ [] } in
      let v : Written inner _ _ p = writes inner y in
      let ended : written inner (event.Uncovers ∷ behind) ≡ written r behind =
      ap (λ (z : Ranges). written z behind) (λ i. record { current = last_more severity.Error r.outer r.current i; outer = without_more r.outer r.current i }) in
      let begun : written r (event.Covers ∷ b) ≡ v.pairs ++ written r behind =
      ap (written (record { current = r.current; outer = r.outer ++ r.current ∷ [] })) is ∙ filters_written (record { current = r.current; outer = r.outer ++ r.current ∷ [] }) fs rest ∙ v.told ∙ ap (λ l. v.pairs ++ l) ended in
      let range : Range = record { nodes = p.nodes; filters = fs } in
      record {
        pairs = u.pairs ++ v.pairs;
        told = joined_told u.pairs v.pairs _ _ _ u.told begun;
        nodes = map-append (λ z. z.0) u.pairs v.pairs ∙ (λ i. u.nodes i ++ v.nodes i);
        right =
            λ from to k n s c.
            let d : (mid : ℕ) × CountFrom from ns mid × CountFrom mid p.nodes to = count_split ns p.nodes from to k in
            elim (Contains-append_cases u.pairs v.pairs (n, s) c) [
              | inl l ↦ (
                  let here : Contains ns n = subst (λ (z : List ℕ). Contains z n) u.nodes (number_in u.pairs n s l) in
                  same_rules [] (range ∷ p.ranges) r.current n s (λ g t h. absurd (empty g h.stands))
                  (λ g t h. absurd (apart ns p.nodes from d.0 to n d.1 d.2 here (inside_of y fs g h.stands n h.holds))) (u.right from d.0 d.1 n s l))
              | inr l ↦ (
                  let here : Contains p.nodes n = subst (λ (z : List ℕ). Contains z n) v.nodes (number_in v.pairs n s l) in
                  by_inner y fs r.current n s here (v.right d.0 to d.2 n s l))
            ];
      }
    where
      inside_of : {K : ℕ → Type 0} {a b : Es} {p : Piece} → Walk K a b p → (fs : List Filter) (g : Range) → Contains (record { nodes = p.nodes; filters = fs } ∷ p.ranges) g → (n : ℕ) → Contains g.nodes n → Contains p.nodes n
      inside_of {p = p} y fs g c n m = elim (cons_cases (record { nodes = p.nodes; filters = fs }) p.ranges g c) [
        | inl e ↦ subst (λ (z : Range). Contains z.nodes n) (sym e) m
        | inr l ↦ range_nodes y g l n m
      ]

      by_outer : {K : ℕ → Type 0} {a b : Es} {p : Piece} → Walk K a b p → (fs : List Filter) (out : Severity) (n : ℕ) (s : Severity) → Contains p.nodes n
          → ((g : Range) (t : Severity) → Rules names p.ranges n g t → ⊥) → (o : Option Severity) → ruling names fs ≡ o → s ≡ or_outer out o
          → IsSeverity names (record { nodes = p.nodes; filters = fs } ∷ p.ranges) out n s
      by_outer {p = p} y fs out n s here free None e is = inr (
        λ g t h. elim (cons_cases (record { nodes = p.nodes; filters = fs }) p.ranges g h.stands) [
          | inl j ↦ (let bad : None ≡ Some t = sym e ∙ ap (λ (z : Range). ruling names z.filters) j ∙ h.gives in cc)
          | inr j ↦ free g t (record { stands = j; holds = h.holds; gives = h.gives })
        ],
        is,
      )
      by_outer {p = p} y fs out n s here free (Some v) e is = inl (record {
        range = record { nodes = p.nodes; filters = fs };
        rules = record { stands = head_in (record { nodes = p.nodes; filters = fs }) p.ranges; holds = here; gives = e ∙ ap Some (sym is) };
        innermost =
            λ other t h. elim (cons_cases (record { nodes = p.nodes; filters = fs }) p.ranges other h.stands) [
              | inl j ↦ λ m z. subst (λ (g : Range). Contains g.nodes m) j z
              | inr j ↦ absurd (free other t (record { stands = j; holds = h.holds; gives = h.gives }))
            ];
      })

      by_inner : {K : ℕ → Type 0} {a b : Es} {p : Piece} → Walk K a b p → (fs : List Filter) (out : Severity) (n : ℕ) (s : Severity) → Contains p.nodes n → IsSeverity names p.ranges (left_by out fs) n s
          → IsSeverity names (record { nodes = p.nodes; filters = fs } ∷ p.ranges) out n s
      by_inner {p = p} y fs out n s here (inl a) = inl (record {
        range = a.range;
        rules = record { stands = tail_in (record { nodes = p.nodes; filters = fs }) p.ranges a.range a.rules.stands; holds = a.rules.holds; gives = a.rules.gives };
        innermost =
            λ other t h. elim (cons_cases (record { nodes = p.nodes; filters = fs }) p.ranges other h.stands) [
              | inl j ↦ λ m z. subst (λ (g : Range). Contains g.nodes m) j (range_nodes y a.range a.rules.stands m z)
              | inr j ↦ a.innermost other t (record { stands = j; holds = h.holds; gives = h.gives })
            ];
      })
      by_inner y fs out n s here (inr a) = by_outer y fs out n s here a.0 (ruling names fs) refl (a.1 ∙ left_is out fs)

  -- ---- the table

  abbrev sets : List Severity → List (ℕ × Severity) → List Severity
  sets table [] = table
  sets table ((n, s) ∷ pairs) = sets (slice_set table n s) pairs

  set_step : (e : Event) (current : Severity) (table : List Severity) (pairs : List (ℕ × Severity)) → sets table (pair_of current e ++ pairs) ≡ sets (graded current e table) pairs
  set_step (event.Node n) current table pairs = refl
  set_step _ current table pairs = refl

  grades_are : (es : Es) (r : Ranges) (table : List Severity) → grades names r es table ≡ sets table (written r es)
  grades_are [] r table = refl
  grades_are (e ∷ es) r table = grades_are es (covered names r e) (graded r.current e table) ∙ sym (set_step e r.current table (written (covered names r e) es))

  sets_length : (pairs : List (ℕ × Severity)) (table : List Severity) → length (sets table pairs) ≡ length table
  sets_length [] table = refl
  sets_length ((n, s) ∷ pairs) table = sets_length pairs (slice_set table n s) ∙ length-set table n s

  sets_keep : (pairs : List (ℕ × Severity)) (table : List Severity) (from to n : ℕ) → CountFrom from (numbers pairs) to → n < from → slice_get (sets table pairs) n ≡ slice_get table n
  sets_keep [] table from to n k lt = refl
  sets_keep ((m, s) ∷ pairs) table from to n k lt = sets_keep pairs (slice_set table m s) (from + 1) to n k.1 (omega (arith, lt)) ∙ get-set_other table m n s (λ e. omega (arith, lt, e, k.0))

  sets_get : (pairs : List (ℕ × Severity)) (table : List Severity) (from to : ℕ) → CountFrom from (numbers pairs) to → to ≤ length table → (n : ℕ) (s : Severity) → Contains pairs (n, s)
      → slice_get (sets table pairs) n ≡ Some s
  sets_get [] table from to k le n s c = absurd (empty (n, s) c)
  sets_get ((m, v) ∷ pairs) table from to k le n s c = elim (cons_cases (m, v) pairs (n, s) c) [
    | inl e ↦ (
        let same : m ≡ n = ap (λ (z : ℕ × Severity). z.0) e in
        let value : v ≡ s = ap (λ (z : ℕ × Severity). z.1) e in
        let low : m < length table = omega (arith, k.0, le, count_length (numbers pairs) (from + 1) to k.1) in
        subst (λ (z : ℕ). slice_get (sets (slice_set table m v) pairs) z ≡ Some s) same
        (sets_keep pairs (slice_set table m v) (from + 1) to m k.1 (omega (arith, k.0)) ∙ get-set_same table m v (slice_index_or table m v) (slice_get-get_or table m v low) ∙ ap Some value))
    | inr t ↦ sets_get pairs (slice_set table m v) (from + 1) to k.1 (omega (arith, le, length-set table m v)) n s t
  ]

  -- the range of the module ends with the text
  written_end : (es : Es) (r : Ranges) → written r (es ++ event.Uncovers ∷ []) ≡ written r es
  written_end [] r = refl
  written_end (e ∷ es) r = ap (λ l. pair_of r.current e ++ l) (written_end es (covered names r e))

pub severities : (t : Tree) (es : Es) (filters : List Severity) → IsNumbered t → es ≡ tree_events t → filters ≡ grades t.names outside es (blank severity.Error es) → AreSeverities t filters
severities t es filters numbered is_events is_filters = record { count = count; each = each }
  where
    table : List Severity
    table = blank severity.Error (tree_events t)

    whole : Told Any (tree_events t ++ event.Uncovers ∷ []) [] (tree_piece t) (tree_nodes t)
    whole = tree_told Any t (λ n c. tt)

    walk : Walk Any ((tree_events t ++ event.Uncovers ∷ []) ++ []) [] (tree_piece t)
    walk = whole.walk (λ n c. tt) []

    w : Written t.names outside ((tree_events t ++ event.Uncovers ∷ []) ++ []) [] (tree_piece t)
    w = writes t.names outside walk

    all_pairs : written t.names outside (tree_events t) ≡ w.pairs
    all_pairs =
        sym (ap (written t.names outside) (append-nil (tree_events t ++ event.Uncovers ∷ [])) ∙ written_end t.names (tree_events t) outside) ∙ w.told ∙ append-nil w.pairs

    are : filters ≡ sets t.names table w.pairs
    are =
        is_filters ∙ ap (λ (z : Es). grades t.names outside z (blank severity.Error z)) is_events ∙ grades_are t.names (tree_events t) outside table ∙ ap (sets t.names table) all_pairs

    table_length : length table ≡ length (tree_nodes t)
    table_length = ap length (blank_nodes severity.Error (tree_events t)) ∙ length-map (event_nodes (tree_events t)) (λ n. severity.Error) ∙ ap length (tree_event_nodes t)

    count : length filters ≡ length (tree_nodes t)
    count = ap length are ∙ sets_length t.names w.pairs table ∙ table_length

    pair_nodes : numbers t.names w.pairs ≡ tree_nodes t
    pair_nodes = w.nodes ∙ whole.nodes

    each : (n : ℕ) → Contains (tree_nodes t) n → (s : Severity) → IsSeverityAt t n s ↔ (severity_at filters n ≡ s)
    each n c s =
        let counted : CountFrom 0 (tree_piece t).nodes numbered.count = subst (λ (z : List ℕ). CountFrom 0 z numbered.count) (sym whole.nodes) numbered.numbered in
        let paired : CountFrom 0 (numbers t.names w.pairs) numbered.count = subst (λ (z : List ℕ). CountFrom 0 z numbered.count) (sym pair_nodes) numbered.numbered in
        let found : (v : Severity) × Contains w.pairs (n, v) = pair_in t.names w.pairs n (subst (λ (z : List ℕ). Contains z n) (sym pair_nodes) c) in
        let right : IsSeverityAt t n found.0 = w.right 0 numbered.count counted n found.0 found.1 in
        let kept : slice_get filters n ≡ Some found.0 =
        ap (λ (z : List Severity). slice_get z n) are ∙ sets_get t.names w.pairs table 0 numbered.count paired (omega (arith, count_length (tree_nodes t) 0 numbered.count numbered.numbered, table_length)) n found.0 found.1 in
        let value : severity_at filters n ≡ found.0 = ap severity_or kept in
        (λ q. value ∙ one_severity t.names walk 0 numbered.count counted severity.Error n found.0 s right q, λ e. subst (λ (z : Severity). IsSeverityAt t n z) (sym value ∙ e) right)

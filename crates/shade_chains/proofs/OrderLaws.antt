-- An order of functions, one function after another; calls that make a cycle where none can be placed.
use Rattle.std.proofs.Common.{◌≡◌, refl, sym, ap, subst, ◌∙◌, ℕ, zero, suc, ◌+◌, ◌<◌, ◌≤◌, add-one, Bool, true, false, ◌&&◌, ◌||◌, List, [], ◌∷◌, ◌++◌, length, get_or, take, set, Option, Some, None, inl, inr, arith, length-append, length-set, replicate, map}
use Rattle.std.specs.Prelude.{◌==◌, ◌⊎◌, All, Contains, slice_get, option_map}
use Rattle.std.specs.List.{list_all, list_any, IsDistinct}
use Rattle.std.proofs.Math.ListN.{get_or-eq_default}
use Rattle.std.proofs.Math.Seq.{take-suc}
use Rattle.std.proofs.lemmas.Bool.{cases_lt}
use Rattle.std.proofs.lemmas.Bool.Decides.{Decides-eqb}
use Rattle.std.proofs.lemmas.List.{get_or_append_left, get_or_push, get_or_default, get_or-set_same, get_or-set_other, get_or-replicate, length-map, length-replicate}
use Rattle.std.proofs.lemmas.List.Elements.{All-nil, All-cons, All-head, All-tail, All-push, All-weaker, All-contains, Contains-push, Contains-push_cases, Contains-append_left, recursion_from_All}
use Rattle.std.proofs.lemmas.List.Folds.{list_all_at}
use Rattle.std.proofs.lemmas.Map.Steps.{length-le_from_distinct_below}
use Rattle.std.proofs.lemmas.Option.{slice_get-get_or, slice_get_within, get_or_from_slice_get, slice_get-map, slice_get_read}
use Rattle.shade_chains.specs.declared.events.Event.{Event}
use Rattle.shade_chains.specs.Events.{event}
use Rattle.shade_chains.specs.Orders.{Rows, RowCalls, RowsLead, first, more, IsAcyclic, IsOrder, is_placed, callee_placed, event_placed, row_placed, IsPlacing, IsStuck, IsRound, IsReady}

-- ---- lists

same_or : (k n : ℕ) → (k ≡ n) ⊎ (k ≡ n → ⊥)
same_or k n = elim (cases_lt k n) [
  | inl l ↦ inr (λ e. omega (arith, l, e))
  | inr g ↦ elim (cases_lt n k) [
    | inl l ↦ inr (λ e. omega (arith, l, e))
    | inr h ↦ inl (omega (arith, g, h))
  ]
]

slice_push : {A : Type 0} (xs : List A) (y x : A) (i : ℕ) → slice_get xs i ≡ Some x → slice_get (xs ++ y ∷ []) i ≡ Some x
slice_push xs y x i at =
    let lt = slice_get_within xs i x at in
    slice_get-get_or (xs ++ y ∷ []) i x (omega (arith, lt, length-append xs (y ∷ []))) ∙ ap Some (get_or_append_left xs (y ∷ []) x i lt ∙ get_or_from_slice_get xs i x x at)

slice_push_cases : {A : Type 0} (xs : List A) (y x : A) (i : ℕ) → slice_get (xs ++ y ∷ []) i ≡ Some x → (slice_get xs i ≡ Some x) ⊎ ((length xs ≡ i) × (y ≡ x))
slice_push_cases xs y x i at = elim (cases_lt i (length xs)) [
  | inl lt ↦ inl (slice_get-get_or xs i x lt ∙ ap Some (sym (get_or_append_left xs (y ∷ []) x i lt) ∙ get_or_from_slice_get (xs ++ y ∷ []) i x x at))
  | inr ge ↦
      let here : length xs ≡ i = omega (arith, ge, slice_get_within (xs ++ y ∷ []) i x at, length-append xs (y ∷ [])) in
      inr (here, sym (get_or_push xs y x i here) ∙ get_or_from_slice_get (xs ++ y ∷ []) i x x at)
]

place_of : {A : Type 0} (xs : List A) (x : A) → Contains xs x → (j : ℕ) × (j < length xs) × (slice_get xs j ≡ Some x)
place_of xs x h = (h.0, h.1, slice_get-get_or xs h.0 x h.1 ∙ ap Some h.2)

take_one : (xs : List ℕ) (i x : ℕ) → i < length xs → x ≡ get_or xs i x → take (i + 1) xs ≡ take i xs ++ x ∷ []
take_one xs i x lt is = ap (λ k. take k xs) (add-one i) ∙ (take-suc xs i x lt ∙ ap (λ y. take i xs ++ y ∷ []) (sym is))

pub all_contains : {A : Type 0} (p : A → Bool) (xs : List A) (x : A) → list_all p xs ≡ true → Contains xs x → p x ≡ true
all_contains {A} p xs x all has = by_test (p x) refl
  where
    by_test : (b : Bool) → p x ≡ b → p x ≡ true
    by_test true e = e
    by_test false e = absurd (let f : true ≡ false = sym all ∙ list_all_at p xs has.0 x has.1 (ap p has.2 ∙ e) in cc)

-- what fails where not all pass
abbrev pub Fails : {A : Type 0} → (A → Bool) → List A → Type 0
Fails {A} p xs = (x : A) × Contains xs x × (p x ≡ false)

contains_behind : {A : Type 0} (y : A) (xs : List A) (x : A) → Contains xs x → Contains (y ∷ xs) x
contains_behind y xs x h = (suc h.0, omega (arith, h.1), h.2)

pub find_failed : {A : Type 0} (p : A → Bool) (xs : List A) → list_all p xs ≡ false → Fails p xs
find_failed {A} p [] e = absurd (let f : true ≡ false = e in cc)
find_failed {A} p (y ∷ xs) e = by_test (p y) refl e (find_failed p xs)
  where
    by_test : (b : Bool) → p y ≡ b → (b && list_all p xs) ≡ false → (list_all p xs ≡ false → Fails p xs) → Fails p (y ∷ xs)
    by_test true h f others = (let r = others f in (r.0, contains_behind y xs r.0 r.1, r.2))
    by_test false h f others = (y, (zero, omega arith, refl), h)

-- ---- functions that are placed

placed_kept : (placed : List Bool) (n k : ℕ) → n < length placed → is_placed placed k ≡ true → is_placed (set placed n true) k ≡ true
placed_kept placed n k lt e = elim (same_or k n) [
  | inl s ↦ ap (λ j. get_or (set placed n true) j true) s ∙ get_or-set_same placed n true true lt
  | inr o ↦ get_or-set_other placed n k true true o ∙ e
]

placed_new : (placed : List Bool) (n : ℕ) → n < length placed → is_placed (set placed n true) n ≡ true
placed_new placed n lt = get_or-set_same placed n true true lt

placed_cases : (placed : List Bool) (n k : ℕ) → is_placed (set placed n true) k ≡ true → (is_placed placed k ≡ true) ⊎ (n ≡ k)
placed_cases placed n k e = elim (same_or k n) [
  | inl s ↦ inr (sym s)
  | inr o ↦ inl (sym (get_or-set_other placed n k true true o) ∙ e)
]

pub place_more : (rows : Rows) (order longer : List ℕ) (placed after : List Bool) (n : ℕ) → IsPlacing rows order placed → n < length rows → IsReady rows placed n → after ≡ set placed n true → longer ≡ order ++ n ∷ [] → IsPlacing rows longer after
place_more rows order longer placed after n p lt ready set_is push_is = record {
  long = ap length set_is ∙ (length-set placed n true ∙ p.long);
  below = subst (All (λ k. k < length rows)) (sym push_is) (All-push (λ k. k < length rows) order n p.below lt);
  behind = λ i k g at calls known.
      let at_push : slice_get (order ++ n ∷ []) i ≡ Some k = ap (λ xs. slice_get xs i) (sym push_is) ∙ at in
      let found : (j : ℕ) × (j < i) × (slice_get order j ≡ Some g) = elim (slice_push_cases order n k i at_push) [
        | inl old ↦ p.behind i k g old calls known
        | inr here ↦
            let row_at : slice_get rows n ≡ Some calls.row = ap (slice_get rows) here.1 ∙ calls.at in
            let callee : is_placed placed g ≡ true = all_contains (event_placed placed) calls.row (event calls.loops (Some g)) (ready calls.row row_at) calls.stands in
            let stands = place_of order g (p.listed g known callee) in
            (stands.0, omega (arith, stands.1, here.0), stands.2)
      ] in
      (found.0, found.1, ap (λ xs. slice_get xs found.0) push_is ∙ slice_push order n g found.0 found.2);
  listed = λ k known e.
      subst (λ xs. Contains xs k) (sym push_is) (elim (placed_cases placed n k (ap (λ xs. is_placed xs k) (sym set_is) ∙ e)) [
        | inl old ↦ Contains-append_left order (n ∷ []) k (p.listed k known old)
        | inr here ↦ subst (λ j. Contains (order ++ n ∷ []) j) here (Contains-push order n)
      ]);
}

-- nothing is placed at first
pub place_none : (rows : Rows) (placed : List Bool) → length placed ≡ length rows → ((k : ℕ) → k < length rows → is_placed placed k ≡ false) → IsPlacing rows [] placed
place_none rows placed long none = record {
  long = long;
  below = All-nil (λ k. k < length rows);
  behind = λ i k g at calls known. absurd (let f : None ≡ Some k = at in cc);
  listed = λ k known e. absurd (let f : false ≡ true = sym (none k known) ∙ e in cc);
}

-- ---- a round

pub round_none : (rows : Rows) (placed : List Bool) → IsRound rows placed placed [] []
round_none rows placed = record {
  fewer = omega arith;
  below = All-nil (λ k. k < length rows);
  kept = λ k h. absurd (omega (arith, h.1));
  grows = λ k e. e;
  stuck = λ e. All-nil (IsStuck rows placed);
}

pub round_placed : (rows : Rows) (before now after : List Bool) (waiting next : List ℕ) (i x : ℕ) → i < length waiting → x ≡ get_or waiting i x → x < length now → after ≡ set now x true
    → IsRound rows before now (take i waiting) next → IsRound rows before after (take (i + 1) waiting) next
round_placed rows before now after waiting next i x lt is known set_is r =
    let front = take_one waiting i x lt is in
    let long : length (take (i + 1) waiting) ≡ length (take i waiting) + 1 = ap length front ∙ length-append (take i waiting) (x ∷ []) in
    record {
      fewer = omega (arith, long, r.fewer);
      below = r.below;
      kept = λ k has. elim (Contains-push_cases (take i waiting) x k (subst (λ xs. Contains xs k) front has)) [
        | inl old ↦ elim (r.kept k old) [
          | inl done ↦ inl (ap (λ xs. is_placed xs k) set_is ∙ placed_kept now x k known done)
          | inr waits ↦ inr waits
        ]
        | inr here ↦ inl (ap (λ xs. is_placed xs k) set_is ∙ subst (λ j. is_placed (set now x true) j ≡ true) here (placed_new now x known))
      ];
      grows = λ k e. ap (λ xs. is_placed xs k) set_is ∙ placed_kept now x k known (r.grows k e);
      stuck = λ e. absurd (omega (arith, e, long, r.fewer));
    }

pub round_waits : (rows : Rows) (before now : List Bool) (waiting next longer : List ℕ) (row : List Event) (i x : ℕ) → i < length waiting → x ≡ get_or waiting i x → slice_get rows x ≡ Some row → row_placed now row ≡ false
    → longer ≡ next ++ x ∷ [] → IsRound rows before now (take i waiting) next → IsRound rows before now (take (i + 1) waiting) longer
round_waits rows before now waiting next longer row i x lt is at waits push_is r =
    let front = take_one waiting i x lt is in
    let long : length (take (i + 1) waiting) ≡ length (take i waiting) + 1 = ap length front ∙ length-append (take i waiting) (x ∷ []) in
    let more_long : length longer ≡ length next + 1 = ap length push_is ∙ length-append next (x ∷ []) in
    record {
      fewer = omega (arith, long, more_long, r.fewer);
      below = subst (All (λ k. k < length rows)) (sym push_is) (All-push (λ k. k < length rows) next x r.below (slice_get_within rows x row at));
      kept = λ k has. elim (Contains-push_cases (take i waiting) x k (subst (λ xs. Contains xs k) front has)) [
        | inl old ↦ elim (r.kept k old) [
          | inl done ↦ inl done
          | inr still ↦ inr (subst (λ xs. Contains xs k) (sym push_is) (Contains-append_left next (x ∷ []) k still))
        ]
        | inr here ↦ inr (subst (λ xs. Contains xs k) (sym push_is) (subst (λ j. Contains (next ++ x ∷ []) j) here (Contains-push next x)))
      ];
      grows = r.grows;
      stuck = λ e.
          subst (All (IsStuck rows now)) (sym push_is) (All-push (IsStuck rows now) next x (r.stuck (omega (arith, e, long, more_long))) (record { row = row; at = at; waits = waits }));
    }

-- ---- all are placed

pub order_made : (rows : Rows) (order : List ℕ) (placed : List Bool) → length order ≡ length rows → IsPlacing rows order placed → ((k : ℕ) → k < length rows → (is_placed placed k ≡ true) ⊎ Contains [] k) → IsOrder rows order
order_made rows order placed once p all = record {
  once = once;
  below = p.below;
  behind = p.behind;
  all = λ k lt. elim (all k lt) [
    | inl done ↦ p.listed k lt done
    | inr none ↦ absurd (omega (arith, none.1))
  ];
}

leads_from : (rows : Rows) (k g : ℕ) → RowsLead rows k g → k < length rows
leads_from rows k g (first c) = slice_get_within rows k c.row c.at
leads_from rows k g (more {g = m} l c) = leads_from rows k m l

abbrev Before : List ℕ → ℕ → ℕ → Type 0
Before order i g = (j : ℕ) × (j < i) × (slice_get order j ≡ Some g)

callee_before : (rows : Rows) (order : List ℕ) → IsOrder rows order → (i k g : ℕ) → slice_get order i ≡ Some k → RowsLead rows k g → (length rows ≤ g) ⊎ Before order i g
callee_before rows order o i k g at (first c) = elim (cases_lt g (length rows)) [
  | inl lt ↦ inr (o.behind i k g at c lt)
  | inr ge ↦ inl ge
]
callee_before rows order o i k g at (more {g = m} l c) = elim (callee_before rows order o i k m at l) [
  | inl past ↦ absurd (omega (arith, past, slice_get_within rows m c.row c.at))
  | inr b ↦ elim (cases_lt g (length rows)) [
    | inr ge ↦ inl ge
    | inl lt ↦ (let n = o.behind b.0 m g b.2 c lt in inr (n.0, omega (arith, b.1, n.1), n.2))
  ]
]

never_back : (rows : Rows) (order : List ℕ) → IsOrder rows order → (bound i k : ℕ) → i < bound → slice_get order i ≡ Some k → RowsLead rows k k → ⊥
never_back rows order o zero i k lt at l = omega (arith, lt)
never_back rows order o (suc bound) i k lt at l = elim (callee_before rows order o i k k at l) [
  | inl past ↦ omega (arith, past, leads_from rows k k l)
  | inr b ↦ never_back rows order o bound b.0 k (omega (arith, b.1, lt)) b.2 l
]

-- functions in order make no cycle
pub order_acyclic : (rows : Rows) (order : List ℕ) → IsOrder rows order → IsAcyclic rows
order_acyclic rows order o k l =
    let here = place_of order k (o.all k (leads_from rows k k l)) in
    never_back rows order o (here.0 + 1) here.0 k (omega arith) here.2 l

-- ---- none can be placed

-- a function that waits for another
abbrev Waits : Rows → List Bool → ℕ → Type 0
Waits rows placed k = (g : ℕ) × RowCalls rows k g × (g < length rows) × (is_placed placed g ≡ false)

waits_by : (rows : Rows) (placed : List Bool) → length placed ≡ length rows → (k : ℕ) → IsStuck rows placed k → Waits rows placed k
waits_by rows placed long k s =
    let f = find_failed (event_placed placed) s.row s.waits in by_callee f.0 (f.0.callee) refl f.1 f.2
  where
    by_callee : (e : Event) (callee : Option ℕ) → e.callee ≡ callee → Contains s.row e → event_placed placed e ≡ false → Waits rows placed k
    by_callee e None is has failed = absurd (let f : true ≡ false = ap (callee_placed placed) (sym is) ∙ failed in cc)
    by_callee e (Some g) is has failed =
        let none : is_placed placed g ≡ false = ap (callee_placed placed) (sym is) ∙ failed in (
          g,
          record {
            row = s.row;
            at = s.at;
            loops = e.loops;
            stands = subst (Contains s.row) (λ i. record { loops = e.loops; callee = is i }) has;
          },
          elim (cases_lt g (length rows)) [
            | inl lt ↦ lt
            | inr ge ↦ absurd (let f : true ≡ false = sym (get_or-eq_default placed true (omega (arith, ge, long))) ∙ none in cc)
          ],
          none,
        )

-- different functions that lead to one that waits
record Walk (rows : Rows) (placed : List Bool) (m : ℕ) : Type 0 where
  nodes : List ℕ
  head : ℕ
  long : length nodes ≡ m
  differ : IsDistinct (λ x y. x == y) nodes
  below : All (λ k. k < length rows) nodes
  lead : All (λ k. RowsLead rows k head) nodes
  known : head < length rows
  waits : is_placed placed head ≡ false

unequal : (x y : ℕ) → (x ≡ y → ⊥) → (x == y) ≡ false
unequal x y none = by_test (x == y) refl
  where
    by_test : (b : Bool) → (x == y) ≡ b → (x == y) ≡ false
    by_test false e = e
    by_test true e = absurd (none ((Decides-eqb x y).0 e))

walk_on : (rows : Rows) (placed : List Bool) → IsAcyclic rows → ((k : ℕ) → k < length rows → is_placed placed k ≡ false → Waits rows placed k) → (m : ℕ) → Walk rows placed m → Walk rows placed (m + 1)
unfolding IsDistinct
walk_on rows placed acyclic next m w =
    let n = next w.head w.known w.waits in
    let apart = All-weaker (λ k. RowsLead rows k w.head) (λ k. (w.head == k) ≡ false) (λ k l. unequal w.head k (λ e. acyclic w.head (subst (λ j. RowsLead rows j w.head) (sym e) l))) w.nodes w.lead in
    record {
      nodes = w.head ∷ w.nodes;
      head = n.0;
      long = omega (arith, w.long);
      differ = (recursion_from_All (λ k. (w.head == k) ≡ false) w.nodes apart, w.differ);
      below = All-cons (λ k. k < length rows) w.head w.nodes w.known w.below;
      lead = All-cons (λ k. RowsLead rows k n.0) w.head w.nodes (first n.1) (All-weaker (λ k. RowsLead rows k w.head) (λ k. RowsLead rows k n.0) (λ k l. more l n.1) w.nodes w.lead);
      known = n.2;
      waits = n.3;
    }

walk_far : (rows : Rows) (placed : List Bool) → IsAcyclic rows → ((k : ℕ) → k < length rows → is_placed placed k ≡ false → Waits rows placed k) → Walk rows placed 0 → (m : ℕ) → Walk rows placed m
walk_far rows placed acyclic next w zero = w
walk_far rows placed acyclic next w (suc m) = subst (Walk rows placed) (add-one m) (walk_on rows placed acyclic next m (walk_far rows placed acyclic next w m))

any_below : (n : ℕ) (xs : List ℕ) (q : ℕ) → list_any (λ y. q == y) xs ≡ true → All (λ k. k < n) xs → q < n
any_below n [] q e all = absurd (let f : false ≡ true = e in cc)
any_below n (x ∷ xs) q e all = by_test (q == x) refl e (λ h. any_below n xs q h (All-tail (λ k. k < n) x xs all))
  where
    by_test : (b : Bool) → (q == x) ≡ b → (b || list_any (λ y. q == y) xs) ≡ true → (list_any (λ y. q == y) xs ≡ true → q < n) → q < n
    by_test true t h others = omega (arith, (Decides-eqb q x).0 t, All-head (λ k. k < n) x xs all)
    by_test false t h others = others h

pub cyclic_made : (rows : Rows) (placed : List Bool) (next : List ℕ) → length placed ≡ length rows → 0 < length next → All (IsStuck rows placed) next
    → ((k : ℕ) → k < length rows → (is_placed placed k ≡ true) ⊎ Contains next k) → IsAcyclic rows → ⊥
unfolding IsDistinct
cyclic_made rows placed [] long some stuck all acyclic = omega (arith, some)
cyclic_made rows placed (k ∷ ks) long some stuck all acyclic =
    let begin = waits_by rows placed long k (All-head (IsStuck rows placed) k ks stuck) in
    let next : (j : ℕ) → j < length rows → is_placed placed j ≡ false → Waits rows placed j =
    λ j lt none. elim (all j lt) [
      | inl done ↦ absurd (let f : true ≡ false = sym done ∙ none in cc)
      | inr waits ↦ waits_by rows placed long j (All-contains (IsStuck rows placed) (k ∷ ks) j stuck waits)
    ] in
    let start : Walk rows placed 0 = record {
      nodes = [];
      head = begin.0;
      long = refl;
      differ = tt;
      below = All-nil (λ j. j < length rows);
      lead = All-nil (λ j. RowsLead rows j begin.0);
      known = begin.2;
      waits = begin.3;
    } in
    let far = walk_far rows placed acyclic next start (length rows + 1) in
    omega (arith, far.long, length-le_from_distinct_below far.nodes (length rows) far.differ (λ q e. any_below (length rows) far.nodes q e far.below))

-- ---- rows that a list of other things holds

pub in_rows : {V : Type 0} (f : V → List Event) (vs : List V) (n : ℕ) → n < length vs → n < length (map f vs)
in_rows f vs n lt = omega (arith, lt, length-map vs f)

pub out_rows : {V : Type 0} (f : V → List Event) (vs : List V) (n : ℕ) → n < length (map f vs) → n < length vs
out_rows f vs n lt = omega (arith, lt, length-map vs f)

pub known_rows : {V : Type 0} (f : V → List Event) (vs : List V) (xs : List ℕ) → All (λ k. k < length (map f vs)) xs → All (λ k. k < length vs) xs
known_rows f vs xs all = All-weaker (λ k. k < length (map f vs)) (λ k. k < length vs) (λ k lt. out_rows f vs k lt) xs all

pub row_here : {V : Type 0} (f : V → List Event) (vs : List V) (n : ℕ) (v : V) → n < length vs → v ≡ get_or vs n v → slice_get (map f vs) n ≡ Some (f v)
row_here f vs n v lt is = slice_get-map f vs n ∙ ap (option_map f) (slice_get_read vs (length vs) n v refl lt is)

pub known_at : {V : Type 0} (f : V → List Event) (vs : List V) (waiting : List ℕ) (placed : List Bool) (i d : ℕ) → All (λ k. k < length vs) waiting → i < length waiting → length placed ≡ length (map f vs) → get_or waiting i d < length placed
known_at f vs waiting placed i d all lt long = omega (arith, all i d lt, long, length-map vs f)

pub round_placed_at : (rows : Rows) (before now after : List Bool) (waiting next : List ℕ) (i d : ℕ) → i < length waiting → get_or waiting i d < length now → after ≡ set now (get_or waiting i d) true
    → IsRound rows before now (take i waiting) next → IsRound rows before after (take (i + 1) waiting) next
round_placed_at rows before now after waiting next i d lt known set_is r =
    round_placed rows before now after waiting next i (get_or waiting i d) lt (get_or_default waiting i d (get_or waiting i d) lt) known set_is r

pub round_waits_at : (rows : Rows) (before now : List Bool) (waiting next longer : List ℕ) (row : List Event) (i d : ℕ) → i < length waiting → slice_get rows (get_or waiting i d) ≡ Some row → row_placed now row ≡ false
    → longer ≡ next ++ get_or waiting i d ∷ [] → IsRound rows before now (take i waiting) next → IsRound rows before now (take (i + 1) waiting) longer
round_waits_at rows before now waiting next longer row i d lt at waits push_is r =
    round_waits rows before now waiting next longer row i (get_or waiting i d) lt (get_or_default waiting i d (get_or waiting i d) lt) at waits push_is r

-- ---- how many are placed and how many wait

pub one_longer : (longer xs : List ℕ) (x : ℕ) → longer ≡ xs ++ x ∷ [] → length longer ≡ length xs + 1
one_longer longer xs x e = ap length e ∙ length-append xs (x ∷ [])

pub count_begin : (n : ℕ) (order waiting : List ℕ) → order ≡ [] → length waiting ≡ n → length order + length waiting ≡ n
count_begin n order waiting e long = omega (arith, ap length e, long)

-- ---- the beginning

pub placing_begin : {V : Type 0} (f : V → List Event) (vs : List V) (order : List ℕ) (placed : List Bool) → order ≡ [] → placed ≡ replicate (length vs) false → IsPlacing (map f vs) order placed
placing_begin f vs order placed empty none =
    subst (λ o. IsPlacing (map f vs) o placed) (sym empty) (place_none (map f vs) placed (ap length none ∙ (length-replicate (length vs) false ∙ sym (length-map vs f)))
    (λ k lt. ap (λ p. is_placed p k) none ∙ get_or-replicate (length vs) k false true (out_rows f vs k lt)))

pub numbers_known : (count : ℕ) (numbers : List ℕ) → length numbers ≡ count → ((k : ℕ) → k < count → slice_get numbers k ≡ Some k) → All (λ k. k < count) numbers
numbers_known count numbers long each = λ k d lt. omega (arith, lt, long, get_or_from_slice_get numbers k k d (each k (omega (arith, lt, long))))

pub numbers_all : (count : ℕ) (numbers : List ℕ) → length numbers ≡ count → ((k : ℕ) → k < count → slice_get numbers k ≡ Some k) → (k : ℕ) → k < count → Contains numbers k
numbers_all count numbers long each k lt = (k, omega (arith, lt, long), get_or_from_slice_get numbers k k k (each k lt))

-- who is placed or waits after a round
pub round_all : {V : Type 0} (f : V → List Event) (vs : List V) (before after : List Bool) (waiting next : List ℕ) → IsRound (map f vs) before after waiting next → ((k : ℕ) → k < length vs → (is_placed before k ≡ true) ⊎ Contains waiting k)
    → (k : ℕ) → k < length vs → (is_placed after k ≡ true) ⊎ Contains next k
round_all f vs before after waiting next r all k lt = elim (all k lt) [
  | inl done ↦ inl (r.grows k done)
  | inr waits ↦ r.kept k waits
]

pub round_stuck : {V : Type 0} (f : V → List Event) (vs : List V) (before after : List Bool) (waiting next : List ℕ) → length after ≡ length (map f vs) → IsRound (map f vs) before after waiting next → length next ≡ length waiting → 0 < length waiting
    → ((k : ℕ) → k < length vs → (is_placed before k ≡ true) ⊎ Contains waiting k) → IsAcyclic (map f vs) → ⊥
round_stuck f vs before after waiting next long r same some all acyclic =
    cyclic_made (map f vs) after next long (omega (arith, same, some)) (r.stuck same) (λ k lt. round_all f vs before after waiting next r all k (out_rows f vs k lt)) acyclic

pub not_empty : {A : Type 0} (xs : List A) (e : Bool) → e ≡ (length xs == 0) → e ≡ false → 0 < length xs
not_empty [] e is not_so = absurd (let f : true ≡ false = sym is ∙ not_so in cc)
not_empty (x ∷ xs) e is not_so = omega arith

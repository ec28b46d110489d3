-- Numbers that rise, and whether one is among them.
use Rattle.std.proofs.Common.{◌≡◌, refl, sym, ap, subst, ◌∙◌, ℕ, zero, suc, ◌+◌, ◌-◌, ◌<◌, ◌≤◌, Bool, true, false, ◌||◌, ◌&&◌, List, [], ◌∷◌, ◌++◌, length, get_or, take, Some, inl, inr, arith, length-append}
use Rattle.std.specs.Prelude.{◌==◌, Result, Ok, Err, min, slice_get}
use Rattle.std.specs.Result.{is_ok}
use Rattle.std.specs.List.{list_any}
use Rattle.std.specs.List.Sorted.{IsBinarySearchResult}
use Rattle.std.specs.Ordering.{nat_cmp}
use Rattle.std.proofs.lemmas.Bool.{cases_lt, leb-true}
use Rattle.std.proofs.lemmas.Bool.Decides.{eqb_tells}
use Rattle.std.proofs.lemmas.List.{get_or_append_left, get_or_push, get_or-take, length-take}
use Rattle.std.proofs.lemmas.List.Sorted.{searched}
use Rattle.std.proofs.lemmas.Option.{slice_get-get_or}
use Rattle.shade_shape.specs.Rising.{Rises, follows}

rises_none : Rises []
rises_none i j le lt = absurd (omega (arith, lt))

pub rises_new : (xs : List ℕ) → xs ≡ [] → Rises xs
rises_new xs none = subst Rises (sym none) rises_none

-- the last one is not above a number that follows
last_below : (xs : List ℕ) (n k : ℕ) → k + 1 ≡ length xs → follows (slice_get xs (length xs - 1)) n ≡ true → get_or xs k 0 ≤ n
last_below xs n k e after =
    let place : length xs - 1 ≡ k = omega (arith, e) in
    let at : slice_get xs (length xs - 1) ≡ Some (get_or xs k 0) = ap (slice_get xs) place ∙ slice_get-get_or xs k 0 (omega (arith, e)) in
    leb-true (get_or xs k 0) n (ap (λ o. follows o n) (sym at) ∙ after)

pub rises_more : (xs : List ℕ) (n : ℕ) → Rises xs → follows (slice_get xs (length xs - 1)) n ≡ true → Rises (xs ++ n ∷ [])
rises_more xs n up after i j le lt = elim (cases_lt j (length xs)) [
  | inl early ↦
      let one : get_or (xs ++ n ∷ []) i 0 ≡ get_or xs i 0 = get_or_append_left xs (n ∷ []) 0 i (omega (arith, le, early)) in
      let two : get_or (xs ++ n ∷ []) j 0 ≡ get_or xs j 0 = get_or_append_left xs (n ∷ []) 0 j early in
      let risen : get_or xs i 0 ≤ get_or xs j 0 = up i j le early in
      let all : get_or (xs ++ n ∷ []) i 0 ≤ get_or (xs ++ n ∷ []) j 0 = omega (arith, one, two, risen) in
      all
  | inr late ↦
      let place : length xs ≡ j = omega (arith, lt, late, length-append xs (n ∷ [])) in
      let two : get_or (xs ++ n ∷ []) j 0 ≡ n = get_or_push xs n 0 j place in
      elim (cases_lt i (length xs)) [
        | inl below ↦
            let one : get_or (xs ++ n ∷ []) i 0 ≡ get_or xs i 0 = get_or_append_left xs (n ∷ []) 0 i below in
            let risen : get_or xs i 0 ≤ get_or xs (length xs - 1) 0 = up i (length xs - 1) (omega (arith, below)) (omega (arith, below)) in
            let last : get_or xs (length xs - 1) 0 ≤ n = last_below xs n (length xs - 1) (omega (arith, below)) after in
            let all : get_or (xs ++ n ∷ []) i 0 ≤ get_or (xs ++ n ∷ []) j 0 = omega (arith, one, two, risen, last) in
            all
        | inr same ↦
            let one : get_or (xs ++ n ∷ []) i 0 ≡ n = get_or_push xs n 0 i (omega (arith, place, le, same)) in
            let all : get_or (xs ++ n ∷ []) i 0 ≤ get_or (xs ++ n ∷ []) j 0 = omega (arith, one, two) in
            all
      ]
]

pub rises_first : (xs : List ℕ) (k : ℕ) → Rises xs → Rises (take k xs)
rises_first xs k up i j le lt =
    let long : length (take k xs) ≡ min k (length xs) = length-take k xs in
    let within : j < k = omega (arith, lt, long) in
    let one : get_or (take k xs) i 0 ≡ get_or xs i 0 = get_or-take k xs i 0 (omega (arith, le, within)) in
    let two : get_or (take k xs) j 0 ≡ get_or xs j 0 = get_or-take k xs j 0 within in
    let risen : get_or xs i 0 ≤ get_or xs j 0 = up i j le (omega (arith, lt, long)) in
    let all : get_or (take k xs) i 0 ≤ get_or (take k xs) j 0 = omega (arith, one, two, risen) in
    all

-- ---- the same, of numbers that rise or not

both : (a b : Bool) → (a && b) ≡ true → (a ≡ true) × (b ≡ true)
both true b e = (refl, e)
both false b e = absurd (cc)

pub rises_after : (xs lent new : List ℕ) (n : ℕ) (old r : Bool) → (old ≡ true → Rises xs) → lent ≡ xs → r ≡ (old && follows (slice_get lent (length lent - 1)) n) → new ≡ xs ++ n ∷ [] → r ≡ true → Rises new
rises_after xs lent new n old r up same is added e =
    let found = both old (follows (slice_get xs (length xs - 1)) n) (ap (λ ys. old && follows (slice_get ys (length ys - 1)) n) (sym same) ∙ (sym is ∙ e)) in
    subst Rises (sym added) (rises_more xs n (up found.0) found.1)

pub rises_cut : (xs new : List ℕ) (k : ℕ) (old : Bool) → (old ≡ true → Rises xs) → new ≡ take k xs → old ≡ true → Rises new
rises_cut xs new k old up cut e = subst Rises (sym cut) (rises_first xs k (up e))

pub rises_lent : (xs lent : List ℕ) → lent ≡ xs → Rises xs → Rises lent
rises_lent xs lent same up = subst Rises (sym same) up

-- ---- whether one is among them

or_true : (a : Bool) → (a || true) ≡ true
or_true true = refl
or_true false = refl

same_is : (x n : ℕ) → x ≡ n → (x == n) ≡ true
same_is x n e = elim (eqb_tells x n) [
  | inl s ↦ s.0
  | inr d ↦ absurd (d.1 e)
]

other_is : (x n : ℕ) → (x ≡ n → ⊥) → (x == n) ≡ false
other_is x n none = elim (eqb_tells x n) [
  | inl s ↦ absurd (none s.1)
  | inr d ↦ d.0
]

any_here : (xs : List ℕ) (i n : ℕ) → i < length xs → get_or xs i 0 ≡ n → list_any (λ m. m == n) xs ≡ true
any_here [] i n lt e = absurd (omega (arith, lt))
any_here (x ∷ xs) zero n lt e = ap (λ b. b || list_any (λ m. m == n) xs) (same_is x n e)
any_here (x ∷ xs) (suc i) n lt e = ap (λ b. (x == n) || b) (any_here xs i n (omega (arith, lt)) e) ∙ or_true (x == n)

any_nowhere : (xs : List ℕ) (n : ℕ) → ((k : ℕ) → k < length xs → get_or xs k 0 ≡ n → ⊥) → list_any (λ m. m == n) xs ≡ false
any_nowhere [] n none = refl
any_nowhere (x ∷ xs) n none =
    ap (λ b. b || list_any (λ m. m == n) xs) (other_is x n (none zero (omega arith))) ∙ any_nowhere xs n (λ k lt. none (suc k) (omega (arith, lt)))

pub found_by : (xs : List ℕ) (n : ℕ) (r : Result ℕ ℕ) (b : Bool) → Rises xs → IsBinarySearchResult (λ y. nat_cmp y n) xs r → b ≡ is_ok r → b ≡ list_any (λ m. m == n) xs
found_by xs n (Ok i) b up h e =
    let there = searched xs n (Ok i) h up in
    e ∙ sym (any_here xs i n there.0 there.1)
found_by xs n (Err i) b up h e =
    let apart = searched xs n (Err i) h up in
    let none : (k : ℕ) → k < length xs → get_or xs k 0 ≡ n → ⊥ = λ k lt same. elim (cases_lt k i) [
      | inl below ↦ (let less : get_or xs k 0 < n = apart.1 k below in omega (arith, less, same))
      | inr above ↦ (let more : n < get_or xs k 0 = apart.2 k above lt in omega (arith, more, same))
    ] in
    e ∙ sym (any_nowhere xs n none)

-- No key stands twice, one key after another.
use Rattle.std.proofs.Common.{◌≡◌, refl, sym, ap, subst, ◌∙◌, ℕ, zero, suc, ◌+◌, ◌<◌, ◌≤◌, ℤ, Bool, true, false, ◌||◌, List, [], ◌∷◌, length, get_or, take, Some, inl, inr, arith}
use Rattle.std.specs.Prelude.{not, pos, slice_get}
use Rattle.std.specs.List.{list_any}
use Rattle.std.specs.Ordering.{int_cmp, int_eq}
use Rattle.std.specs.BTreeSet.{BTreeSet, contains}
use Rattle.std.proofs.lemmas.Bool.{cases_lt}
use Rattle.std.proofs.lemmas.Bool.Decides.{Decides-int_eq}
use Rattle.std.proofs.lemmas.Cmp.{int_eq_equiv}
use Rattle.std.proofs.lemmas.Option.{slice_get_within, slice_get-get_or}
use Rattle.shade_core.specs.HasShape.{AllDiffer}

-- among the first n of a list no two places have one thing
abbrev pub Differ : List ℤ → ℕ → Type 0
Differ xs n = (i j : ℕ) (x : ℤ) → i < n → j < n → slice_get xs i ≡ Some x → slice_get xs j ≡ Some x → i ≡ j

-- whether one of the first n is this
abbrev pub has : List ℤ → ℕ → ℤ → Bool
has xs n q = list_any (λ k. int_eq k q) (take n xs)

or_left : (a b : Bool) → (a || b) ≡ false → a ≡ false
or_left false b e = refl
or_left true b e = absurd (cc)

or_right : (a b : Bool) → (a || b) ≡ false → b ≡ false
or_right false b e = e
or_right true b e = absurd (cc)

not_found : (xs : List ℤ) (n j : ℕ) (x : ℤ) → has xs n x ≡ false → j < n → slice_get xs j ≡ Some x → ⊥
not_found [] n j x e l at = absurd (cc)
not_found (y ∷ xs) zero j x e l at = absurd (omega (arith, l))
not_found (y ∷ xs) (suc n) zero x e l at =
    let same : y ≡ x = cc in
    let one : int_eq y x ≡ true = subst (λ z. int_eq y z ≡ true) same (int_eq_equiv.refl y) in
    let none : int_eq y x ≡ false = or_left (int_eq y x) (has xs n x) e in
    absurd (let f : true ≡ false = sym one ∙ none in cc)
not_found (y ∷ xs) (suc n) (suc j) x e l at = not_found xs n j x (or_right (int_eq y x) (has xs n x) e) (omega (arith, l)) at

-- where one of the first n is found
abbrev pub FoundBefore : List ℤ → ℕ → ℤ → Type 0
FoundBefore xs n q = (i : ℕ) × (i < n) × (slice_get xs i ≡ Some q)

found : (xs : List ℤ) (n : ℕ) (x : ℤ) → has xs n x ≡ true → FoundBefore xs n x
found [] zero x e = absurd (let f : false ≡ true = e in cc)
found [] (suc n) x e = absurd (let f : false ≡ true = e in cc)
found (y ∷ xs) zero x e = absurd (let f : false ≡ true = e in cc)
found (y ∷ xs) (suc n) x e = by_test (int_eq y x) refl e (found xs n x)
  where
    by_test : (b : Bool) → int_eq y x ≡ b → (b || has xs n x) ≡ true → (has xs n x ≡ true → FoundBefore xs n x) → FoundBefore (y ∷ xs) (suc n) x
    by_test true t h more = (zero, omega arith, ap Some ((Decides-int_eq y x).0 t))
    by_test false t h more = (let r = more h in (suc r.0, omega (arith, r.1), r.2))

pub differ_more : (xs : List ℤ) (n : ℕ) (x : ℤ) → n < length xs → slice_get xs n ≡ Some x → has xs n x ≡ false → Differ xs n → Differ xs (n + 1)
differ_more xs n x lt at new d i j y li lj ai aj = elim (cases_lt i n) [
  | inl l ↦ elim (cases_lt j n) [
    | inl m ↦ d i j y l m ai aj
    | inr m ↦
        let jn : j ≡ n = omega (arith, lj, m) in
        let same : y ≡ x = (let b : Some y ≡ Some x = sym aj ∙ (ap (slice_get xs) jn ∙ at) in cc) in
        absurd (not_found xs n i x new l (ai ∙ ap Some same))
  ]
  | inr l ↦
      let in_ : i ≡ n = omega (arith, li, l) in
      elim (cases_lt j n) [
        | inl m ↦
            let same : y ≡ x = (let b : Some y ≡ Some x = sym ai ∙ (ap (slice_get xs) in_ ∙ at) in cc) in
            absurd (not_found xs n j x new m (aj ∙ ap Some same))
        | inr m ↦ omega (arith, li, l, lj, m)
      ]
]

pub differ_never : (xs : List ℤ) (n : ℕ) (x : ℤ) → slice_get xs n ≡ Some x → has xs n x ≡ true → AllDiffer xs → ⊥
differ_never xs n x at old all = (let f = found xs n x old in let e : f.0 ≡ n = all f.0 n x f.2 at in omega (arith, f.1, e))

pub differ_all : (xs : List ℤ) (n : ℕ) → length xs ≤ n → Differ xs n → AllDiffer xs
differ_all xs n le d i j x ai aj = d i j x (omega (arith, slice_get_within xs i x ai, le)) (omega (arith, slice_get_within xs j x aj, le)) ai aj

old_by : (b added : Bool) → added ≡ not b → added ≡ false → b ≡ true
old_by true added e f = refl
old_by false added e f = absurd (let g : true ≡ false = sym e ∙ f in cc)

new_by : (b added : Bool) → added ≡ not b → added ≡ true → b ≡ false
new_by false added e f = refl
new_by true added e f = absurd (let g : false ≡ true = sym e ∙ f in cc)

-- a set that has the first n keys, to which the next one was added
pub added_new : (xs : List ℤ) (n : ℕ) (x : ℤ) (seen : BTreeSet ℤ) (added : Bool) → n < length xs → added ≡ not (contains int_cmp seen x) → added ≡ true → x ≡ get_or xs n (pos 0) → ((q : ℤ) → contains int_cmp seen q ≡ has xs n q) → Differ xs n
    → Differ xs (n + 1)
added_new xs n x seen added lt e t is inv differ =
    differ_more xs n x lt (slice_get-get_or xs n (pos 0) lt ∙ ap Some (sym is)) (sym (inv x) ∙ new_by _ added e t) differ

pub added_old : (xs : List ℤ) (n : ℕ) (x : ℤ) (seen : BTreeSet ℤ) (added : Bool) → n < length xs → added ≡ not (contains int_cmp seen x) → added ≡ false → x ≡ get_or xs n (pos 0) → ((q : ℤ) → contains int_cmp seen q ≡ has xs n q) → AllDiffer xs → ⊥
added_old xs n x seen added lt e t is inv = differ_never xs n x (slice_get-get_or xs n (pos 0) lt ∙ ap Some (sym is)) (sym (inv x) ∙ old_by _ added e t)

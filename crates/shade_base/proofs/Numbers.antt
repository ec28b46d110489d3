-- What digits write.
use Rattle.std.proofs.Common.{◌≡◌, refl, sym, ap, ◌∙◌, ℕ, zero, suc, ◌+◌, ◌-◌, ◌*◌, ◌^◌, ◌<◌, ◌≤◌, ◌⊎◌, inl, inr, true, false, ◌&&◌, List, [], ◌∷◌, length, drop, drop-cons, get_or, arith, rules}
use Rattle.std.proofs.Math.ListN.{drop_of_length-le}
use Rattle.std.specs.Char.{is_ascii_digit}
use Rattle.std.specs.Str.{all_ascii_digits}
use Rattle.std.specs.Fmt.{decimal}
use Rattle.std.proofs.lemmas.Str.Parse.{IsNumeralModel, numerals_by_fold}
use Rattle.std.proofs.lemmas.Fmt.{digits_decimal, digits_value-decimal, decimal-digits_value, decimal_digit, decimal_nonempty, first_decimal}

abbrev pub read_on : ℕ → List ℕ → ℕ
read_on n [] = n
read_on n (c ∷ cs) = read_on (n * 10 + (c - 48)) cs

own : IsNumeralModel (λ ds. all_ascii_digits ds ≡ true) (read_on 0)
own = numerals_by_fold _ (search rules) read_on (search rules)

pub read_on_grows : (ds : List ℕ) (n : ℕ) → n ≤ read_on n ds
read_on_grows [] n = omega arith
read_on_grows (c ∷ cs) n = let h : n * 10 + (c - 48) ≤ read_on (n * 10 + (c - 48)) cs = read_on_grows cs (n * 10 + (c - 48)) in omega arith

module _ (n : ℕ) (text : List ℕ) (small : n < 2 ^ 32) (is : text ≡ decimal n) where
  pub digits_all : all_ascii_digits text ≡ true
  digits_all = ap all_ascii_digits is ∙ digits_decimal own n (omega arith)

  pub digits_value : read_on 0 text ≡ n
  digits_value = ap (read_on 0) is ∙ digits_value-decimal own n (omega arith)

  pub not_empty : 0 < length text
  not_empty = let h : 0 < length (decimal n) = decimal_nonempty n (omega arith) in omega (arith, ap length is)

  pub no_zero_first : (1 < length text) × (get_or text 0 0 ≡ 48) → ⊥
  no_zero_first (long, zero_first) = elim (cases n refl) [ inl z ↦ absurd (zero_case z) | inr p ↦ absurd (positive p) ]
    where
      cases : (k : ℕ) → k ≡ n → (n ≡ 0) ⊎ (0 < n)
      cases zero e = inl (sym e)
      cases (suc k) e = inr (omega arith)

      zero_case : n ≡ 0 → ⊥
      zero_case z = let e : length text ≡ 1 = ap length (is ∙ ap decimal z ∙ decimal_digit 0 (omega arith)) in omega arith

      positive : 0 < n → ⊥
      positive p = let h : 48 < get_or (decimal n) 0 0 = first_decimal n p (omega arith) in omega (arith, ap (λ xs. get_or xs 0 0) is)

  module _ (i value : ℕ) (below : i < length text) (so_far : read_on value (drop i text) ≡ read_on 0 text) (digits : all_ascii_digits (drop i text) ≡ all_ascii_digits text) where
    one : drop i text ≡ get_or text i 0 ∷ drop (suc i) text
    one = drop-cons text i 0 below

    pub no_other : is_ascii_digit (get_or text i 0) ≡ false → ⊥
    no_other other =
        let e : all_ascii_digits (drop i text) ≡ false = ap all_ascii_digits one ∙ ap (λ b. b && all_ascii_digits (drop (suc i) text)) other in
        let h : all_ascii_digits text ≡ true = digits_all in
        cc

    pub not_above : (value * 10 + (get_or text i 0 - 48) < 2 ^ 32 → ⊥) → ⊥
    not_above big =
        let e : read_on (value * 10 + (get_or text i 0 - 48)) (drop (suc i) text) ≡ n = sym (ap (read_on value) one) ∙ so_far ∙ digits_value in
        big (omega (arith, e, read_on_grows (drop (suc i) text) (value * 10 + (get_or text i 0 - 48))))

pub is_decimal : (text : List ℕ) (i value : ℕ) → length text ≤ i → all_ascii_digits (drop i text) ≡ all_ascii_digits text → read_on value (drop i text) ≡ read_on 0 text → value < 2 ^ 32 → 0 < length text → ((1 < length text) × (get_or text 0 0 ≡ 48) → ⊥) → text ≡ decimal value
is_decimal text i value all digits so_far small some plain =
    let none : drop i text ≡ [] = drop_of_length-le text all in
    let value_is : value ≡ read_on 0 text = sym (ap (read_on value) none) ∙ so_far in
    let every : all_ascii_digits text ≡ true = sym digits ∙ ap all_ascii_digits none in
    sym (decimal-digits_value own text every some (λ z. short z) (omega arith)) ∙ ap decimal (sym value_is)
  where
    short : get_or text 0 0 ≡ 48 → length text ≡ 1
    short z = elim (cases (length text) refl) [ inl one ↦ one | inr more ↦ absurd (plain (more, z)) ]
      where
        cases : (k : ℕ) → k ≡ length text → (length text ≡ 1) ⊎ (1 < length text)
        cases zero e = absurd (omega arith)
        cases (suc zero) e = inl (omega arith)
        cases (suc (suc k)) e = inr (omega arith)

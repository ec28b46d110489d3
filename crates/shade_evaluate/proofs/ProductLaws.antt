-- A sum of products in two numbers, and which sums AbstractInt has.
use Rattle.std.proofs.Common.{◌≡◌, refl, sym, ap, ◌∙◌, ℕ, zero, suc, ◌+◌, ◌*◌, ◌^◌, ◌<◌, ◌≤◌, ℤ, pos, negsuc, arith, List, [], ◌∷◌, ◌++◌, map, fold}
use Rattle.std.specs.Prelude.{unsigned_abs, neg_ℤ, ◌+ℤ◌, ◌*ℤ◌, ◌<ℤ◌, ◌≤ℤ◌, int_div, int_rem, Bool, true, false}
use Rattle.std.specs.List.{range_with_len}
use Rattle.std.proofs.lemmas.Int.{ints, quot-rem, rem_below}
use Rattle.std.proofs.lemmas.List.Sums.{fold-append}
use Rattle.std.proofs.lemmas.List.FromFn.{map-range_with_len_more}
use Rattle.std.proofs.lemmas.Bool.Decides.{nat_tests}
use Rattle.shade_values.specs.declared.types.Scalar.TheVariants as scalar
use Rattle.shade_evaluate.specs.Fits.{has_number}

-- ---- a sum in two numbers

unsigned_neg : (n : ℕ) → unsigned_abs (neg_ℤ (pos n)) ≡ n
unsigned_neg zero = refl
unsigned_neg (suc n) = refl

-- the first k of the numbers that a function gives, added
abbrev pub total : (ℕ → ℤ) → ℕ → ℤ
total f k = fold (λ s x. s +ℤ x) (pos 0) (map f (range_with_len 0 k))

total_more : (f : ℕ → ℤ) (k : ℕ) → total f (k + 1) ≡ total f k +ℤ f k
total_more f k =
    ap (fold (λ s x. s +ℤ x) (pos 0)) (map-range_with_len_more f 0 k k (omega arith))
    ∙ fold-append (λ s x. s +ℤ x) (pos 0) (map f (range_with_len 0 k)) (f k ∷ [])

-- `high` times 2^64 and `low` are the first k numbers, added
pub record IsSum (f : ℕ → ℤ) (k : ℕ) (high low : ℤ) : Type 0 where
  pub sum : high *ℤ pos (2 ^ 64) +ℤ low ≡ total f k
  pub small_low : unsigned_abs low < 2 ^ 64
  pub small_high : unsigned_abs high ≤ k * 2 ^ 63

pub no_sum : (f : ℕ → ℤ) → IsSum f 0 (pos 0) (pos 0)
no_sum f = record { sum = refl; small_low = omega arith; small_high = omega arith }

-- ---- sizes, by cases

abs_sum : (a b : ℤ) → unsigned_abs (a +ℤ b) ≤ unsigned_abs a + unsigned_abs b
abs_sum (pos a) (pos b) = omega arith
abs_sum (pos a) (negsuc b) = omega (arith, ints)
abs_sum (negsuc a) (pos b) = omega (arith, ints)
abs_sum (negsuc a) (negsuc b) = omega arith

abs_div : (t : ℤ) (n : ℕ) → unsigned_abs t < n * 2 ^ 64 → unsigned_abs (int_div t (pos (2 ^ 64))) < n
abs_div (pos a) n h = omega arith
abs_div (negsuc a) n h = rw unsigned_neg (omega arith)

along : (high low p t q r : ℤ) → t ≡ low +ℤ p → q *ℤ pos (2 ^ 64) +ℤ r ≡ t → (high +ℤ q) *ℤ pos (2 ^ 64) +ℤ r ≡ high *ℤ pos (2 ^ 64) +ℤ low +ℤ p
along high low p t q r is split = omega (arith, ints)

module _ (low p : ℤ) (small : unsigned_abs low < 2 ^ 64) (near : unsigned_abs p ≤ 2 ^ 126) where
  pub small_total : unsigned_abs (low +ℤ p) < 2 ^ 63 * 2 ^ 64
  small_total = omega (arith, abs_sum low p)

  pub small_carry : unsigned_abs (int_div (low +ℤ p) (pos (2 ^ 64))) < 2 ^ 63
  small_carry = abs_div (low +ℤ p) (2 ^ 63) small_total

pub sum_more : (f : ℕ → ℤ) (k : ℕ) (high low p new_high new_low : ℤ) → IsSum f k high low → p ≡ f k → unsigned_abs p ≤ 2 ^ 126
    → new_high ≡ high +ℤ int_div (low +ℤ p) (pos (2 ^ 64)) → new_low ≡ int_rem (low +ℤ p) (pos (2 ^ 64)) → IsSum f (k + 1) new_high new_low
sum_more f k high low p new_high new_low h is small high_is low_is =
    let t = low +ℤ p in
    let carry = small_carry low p h.small_low small in
    let bound = abs_sum high (int_div t (pos (2 ^ 64))) in
    record {
      sum =
          ap (λ z. z *ℤ pos (2 ^ 64) +ℤ new_low) high_is ∙ ap (λ z. (high +ℤ int_div t (pos (2 ^ 64))) *ℤ pos (2 ^ 64) +ℤ z) low_is
          ∙ along high low p t (int_div t (pos (2 ^ 64))) (int_rem t (pos (2 ^ 64))) refl (quot-rem t (pos (2 ^ 64)))
          ∙ ap (λ z. z +ℤ p) h.sum ∙ ap (λ z. total f k +ℤ z) is ∙ sym (total_more f k);
      small_low = rw low_is (rem_below t (pos (2 ^ 64)) (omega arith));
      small_high = rw high_is (omega (arith, bound, carry, h.small_high));
    }

-- ---- what AbstractInt has

pub too_low : (high low : ℤ) → high <ℤ negsuc 0 → unsigned_abs low < 2 ^ 64 → has_number scalar.Abstract (high *ℤ pos (2 ^ 64) +ℤ low) ≡ false
too_low high low h g = grind (arith, ints, nat_tests)

pub too_high : (high low : ℤ) → pos 1 <ℤ high → unsigned_abs low < 2 ^ 64 → has_number scalar.Abstract (high *ℤ pos (2 ^ 64) +ℤ low) ≡ false
too_high high low h g = grind (arith, ints, nat_tests)

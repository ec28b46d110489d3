-- Numbers modulo a power of two: what is left of a wrapped number.
use Rattle.std.proofs.Common.{◌≡◌, refl, sym, ap, ◌∙◌, ℕ, zero, suc, ◌+◌, ◌-◌, ◌*◌, ◌%◌, ◌^◌, ◌<◌, ◌≤◌, ℤ, pos, negsuc, arith, w32, w64, FitsSigned}
use Rattle.std.specs.Prelude.{unsigned_abs, int_div, neg_ℤ, ◌+ℤ◌, ◌-ℤ◌, ◌*ℤ◌}
use Rattle.std.proofs.lemmas.Nat.{pow-add, pow_pos}
use Rattle.std.specs.Int.{int_wrap, cast_signed, cast_unsigned, int_wrapping_add, int_wrapping_sub, int_wrapping_mul, int_wrapping_neg, int_wrapping_div}
use Rattle.std.proofs.Math.Nat.{div-le_self, mul-lt-mul_of_pos_right, pow-le-pow_right}
use Rattle.std.proofs.lemmas.Int.{int_wrap_fits, SFits-int_wrap, wrapping_add_is, wrapping_sub_is, wrapping_mul_is, wrapping_neg_is}
use Rattle.std.proofs.lemmas.Bool.Decides.{nat_tests}
use Rattle.shade_values.specs.declared.types.Scalar.{Scalar}
use Rattle.shade_values.specs.declared.types.Scalar.TheVariants as scalar
use Rattle.shade_values.specs.declared.value.Leaf.{Leaf}
use Rattle.shade_values.specs.Numbers.{modulo, word, wrapped}
use Rattle.shade_values.specs.Operations.{quotient}

flip : (n : ℕ) → n < 2 ^ 64 → (2 ^ 64 - 1 - n) % 2 ^ 32 ≡ 2 ^ 32 - 1 - n % 2 ^ 32
flip n h = omega arith

flip_bit : (n : ℕ) → n < 2 ^ 64 → (2 ^ 64 - 1 - n) % 2 ≡ 1 - n % 2
flip_bit n h = omega arith

low : (n : ℕ) → n % 2 ^ 64 % 2 ^ 32 ≡ n % 2 ^ 32
low n = omega arith

low_bit : (n : ℕ) → n % 2 ^ 64 % 2 ≡ n % 2
low_bit n = omega arith

signed_word : (n : ℕ) → n < 2 ^ 64 → word (cast_signed w64 n) ≡ n % 2 ^ 32
signed_word n h = grind (arith, nat_tests, flip n h)

signed_bit : (n : ℕ) → n < 2 ^ 64 → modulo 2 (cast_signed w64 n) ≡ n % 2
signed_bit n h = grind (arith, nat_tests, flip_bit n h)

word_wrap : (z : ℤ) → word (int_wrap w64 z) ≡ word z
unfolding int_wrap
word_wrap (pos a) = signed_word (a % 2 ^ 64) (omega arith) ∙ low a
word_wrap (negsuc a) = signed_word (2 ^ 64 - 1 - a % 2 ^ 64) (omega arith) ∙ (omega arith)

bit_wrap : (z : ℤ) → modulo 2 (int_wrap w64 z) ≡ modulo 2 z
unfolding int_wrap
bit_wrap (pos a) = signed_bit (a % 2 ^ 64) (omega arith) ∙ low_bit a
bit_wrap (negsuc a) = signed_bit (2 ^ 64 - 1 - a % 2 ^ 64) (omega arith) ∙ (omega arith)

signed_by_word : (z : ℤ) → int_wrap w32 z ≡ cast_signed w32 (word z)
unfolding int_wrap
signed_by_word z = refl

half_wrap : (z : ℤ) → int_wrap w32 (int_wrap w64 z) ≡ int_wrap w32 z
half_wrap z = signed_by_word (int_wrap w64 z) ∙ ap (cast_signed w32) (word_wrap z) ∙ sym (signed_by_word z)

small_abs : (a : ℤ) → FitsSigned w64 a → unsigned_abs a ≤ 2 ^ 63
small_abs (pos n) f = omega (arith, f.sfits)
small_abs (negsuc n) f = omega (arith, f.sfits)

unsigned_neg : (n : ℕ) → unsigned_abs (neg_ℤ (pos n)) ≡ n
unsigned_neg zero = refl
unsigned_neg (suc n) = refl

small_quotient : (a b : ℤ) → unsigned_abs a ≤ 2 ^ 63 → unsigned_abs (int_div a b) ≤ 2 ^ 63
small_quotient (pos a) (pos b) h = omega (arith, div-le_self a b)
small_quotient (pos a) (negsuc b) h = rw unsigned_neg (omega (arith, div-le_self a (suc b)))
small_quotient (negsuc a) (pos b) h = rw unsigned_neg (omega (arith, div-le_self (suc a) b))
small_quotient (negsuc a) (negsuc b) h = omega (arith, div-le_self (suc a) (suc b))

-- a number that was wrapped at 64 bits is as good as the number itself
pub wrapped-int_wrap : (s : Scalar) (z : ℤ) → wrapped s (int_wrap w64 z) ≡ wrapped s z
wrapped-int_wrap scalar.Bool z = ap pos (bit_wrap z)
wrapped-int_wrap scalar.I32 z = half_wrap z
wrapped-int_wrap scalar.U32 z = ap pos (word_wrap z)
wrapped-int_wrap scalar.Abstract z = int_wrap_fits w64 (int_wrap w64 z) (SFits-int_wrap w64 z)

-- the value of a cast is the wrapped number
pub cast_is_wrap : (z : ℤ) → unsigned_abs z ≤ 2 ^ 63 → cast_signed w64 (cast_unsigned w64 z) ≡ int_wrap w64 z
unfolding int_wrap
cast_is_wrap (pos n) h = ap (cast_signed w64) (omega arith)
cast_is_wrap (negsuc n) h = ap (cast_signed w64) (omega arith)

-- the wrapping methods of `i64`
module _ (s : Scalar) (a b : ℤ) (f : FitsSigned w64 a) (g : FitsSigned w64 b) where
  pub wrapped-add : wrapped s (int_wrapping_add w64 a b) ≡ wrapped s (a +ℤ b)
  wrapped-add = ap (wrapped s) (wrapping_add_is w64 a b f g) ∙ wrapped-int_wrap s (a +ℤ b)

  pub wrapped-sub : wrapped s (int_wrapping_sub w64 a b) ≡ wrapped s (a -ℤ b)
  wrapped-sub = ap (wrapped s) (wrapping_sub_is w64 a b f g) ∙ wrapped-int_wrap s (a -ℤ b)

  pub wrapped-mul : wrapped s (int_wrapping_mul w64 a b) ≡ wrapped s (a *ℤ b)
  wrapped-mul = ap (wrapped s) (wrapping_mul_is w64 a b f g) ∙ wrapped-int_wrap s (a *ℤ b)

pub wrapped-neg : (s : Scalar) (a : ℤ) → FitsSigned w64 a → wrapped s (int_wrapping_neg w64 a) ≡ wrapped s (neg_ℤ a)
wrapped-neg s a f = ap (wrapped s) (wrapping_neg_is w64 a f) ∙ wrapped-int_wrap s (neg_ℤ a)

pub wrapped-abs : (s : Scalar) (a : ℤ) → FitsSigned w64 a → wrapped s (cast_signed w64 (unsigned_abs a)) ≡ wrapped s (pos (unsigned_abs a))
wrapped-abs s a f = ap (wrapped s) (cast_is_wrap (pos (unsigned_abs a)) (small_abs a f)) ∙ wrapped-int_wrap s (pos (unsigned_abs a))

pub wrapped-div : (s : Scalar) (a b : ℤ) → FitsSigned w64 a → wrapped s (int_wrapping_div w64 a b) ≡ wrapped s (int_div a b)
wrapped-div s a b f = ap (wrapped s) (cast_is_wrap (int_div a b) (small_quotient a b (small_abs a f))) ∙ wrapped-int_wrap s (int_div a b)

-- a leaf by its fields
pub leaf_is : (l : Leaf) (s : Scalar) (z : ℤ) → l.scalar ≡ s → l.number ≡ z → l ≡ record { scalar = s; number = z }
leaf_is l s z e g = ap (λ x. record { scalar = x; number = l.number }) e ∙ ap (λ x. record { scalar = s; number = x }) g

pub quotient_by : (a b : ℤ) → (cast_unsigned w64 b ≡ 0 → ⊥) → quotient a b ≡ int_div a b
quotient_by a (pos zero) h = absurd (h refl)
quotient_by a (pos (suc n)) h = grind (arith, nat_tests)
quotient_by a (negsuc n) h = grind (arith, nat_tests)

-- a field in its place is a number of 32 bits
pub placed_small : (bits count offset : ℕ) → bits < 2 ^ count → offset + count ≤ 32 → bits * 2 ^ offset < 2 ^ 32
placed_small bits count offset below within =
    let more : bits * 2 ^ offset < 2 ^ count * 2 ^ offset = mul-lt-mul_of_pos_right below (pow_pos offset) in
    let whole : 2 ^ (count + offset) ≡ 2 ^ count * 2 ^ offset = pow-add 2 count offset in
    let least : 2 ^ (count + offset) ≤ 2 ^ 32 = pow-le-pow_right {n = 2} (omega arith) {i = count + offset} {j = 32} (omega arith) in
    omega arith

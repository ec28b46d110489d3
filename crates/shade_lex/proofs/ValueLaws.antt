-- The value of digits is no less than that of the first of them.
use Rattle.std.proofs.Common.{◌≡◌, ℕ, ◌+◌, ◌*◌, ◌<◌, ◌≤◌, List, [], ◌∷◌, length, get_or, drop, Bool, true, false, refl, ap, sym, ◌∙◌, arith, cond}
use Rattle.std.proofs.Math.Nat.{le-mul_of_pos_right}
use Rattle.std.proofs.lemmas.List.{drop_more}
use Rattle.shade_lex.specs.Lexemes.{value_run, is_suffix, digit_of}

pub value_run-least : (radix value : ℕ) (digits : List ℕ) → 1 ≤ radix → value ≤ value_run radix value digits
value_run-least radix value [] h = omega arith
value_run-least radix value (c ∷ digits) h = by (is_suffix c) (value_run-least radix (value * radix + digit_of c) digits h)
  where
    by : (b : Bool) → value * radix + digit_of c ≤ value_run radix (value * radix + digit_of c) digits → value ≤ cond b value (value_run radix (value * radix + digit_of c) digits)
    by true more = omega arith
    by false more = let times : value ≤ value * radix = le-mul_of_pos_right value h in omega (arith, times, more)

-- a value that does not fit with one more digit is too large with all
pub value_run-large : (radix value : ℕ) (digits : List ℕ) (index c : ℕ) → 1 ≤ radix → index < length digits → c ≡ get_or digits index c → is_suffix c ≡ false → value_run radix value (drop index digits) ≡ value_run radix 0 digits
    → (value * radix + digit_of c < 18446744073709551616 → ⊥) → 18446744073709551616 ≤ value_run radix 0 digits
value_run-large radix value digits index c h within is plain e large =
    let rest : List ℕ = drop (index + 1) digits in
    let split : drop index digits ≡ c ∷ rest = drop_more digits index c within ∙ ap (λ (x : ℕ). x ∷ rest) (sym is) in
    let head : value_run radix value (drop index digits) ≡ value_run radix value (c ∷ rest) = ap (value_run radix value) split in
    let step : value_run radix value (c ∷ rest) ≡ value_run radix (value * radix + digit_of c) rest = rw plain refl in
    let least : value * radix + digit_of c ≤ value_run radix (value * radix + digit_of c) rest = value_run-least radix (value * radix + digit_of c) rest h in
    let more : 18446744073709551616 ≤ value * radix + digit_of c = omega (arith, large) in
    omega (arith, head, step, least, more, e)

use Rattle.std.proofs.Common.{◌≡◌, ◌∙◌, refl, eqb, true, false, sym, ◌<◌, length, arith}
use Rattle.std.proofs.lemmas.Bool.{eqb-true}
use Rattle.std.proofs.lemmas.Bool.Decides.{nat_tests}
use Rattle.shade_base.proofs.Numbers.{not_empty, no_zero_first, no_other, not_above, is_decimal}
use Rattle.shade_base.proofs.decimal.decimal_value.Goals as goal

pub returns-then-is_empty : goal.returns-then-is_empty
returns-then-is_empty c = λ n small is. let h : 0 < length c.args.text.now = not_empty n c.args.text.now small is in let e : eqb (length c.args.text.now) 0 ≡ true = sym c.is_empty.ensures ∙ c.if-is_empty.true in let none : length c.args.text.now ≡ 0 = eqb-true _ _ e in omega arith

pub returns-then-has_leading_zero : goal.returns-then-has_leading_zero
returns-then-has_leading_zero c = λ n small is. no_zero_first n c.args.text.now small is (c.if-has_leading_zero.ensures.0 refl)

pub returns-then-not-is_ascii_digit : goal.returns-then-not-is_ascii_digit
returns-then-not-is_ascii_digit c = λ n small is. no_other n c.args.text.now small is c.digits.byte-index c.digits.value (omega arith) c.digits.invariant.value c.digits.invariant.digits (sym c.if-not-is_ascii_digit.ensures.value)

pub returns-in_default : goal.returns-in_default
returns-in_default c = λ n small is. not_above n c.args.text.now small is c.digits.byte-index c.digits.value (omega arith) c.digits.invariant.value c.digits.invariant.digits c.in_default.ensures

pub returns : goal.returns
returns c = is_decimal c.args.text.now c.digits.byte-index c.digits.value (omega arith) c.digits.invariant.digits c.digits.invariant.value c.digits.invariant.small (let e : eqb (length c.args.text.now) 0 ≡ false = sym c.is_empty.ensures ∙ c.if-is_empty.false in grind (arith, nat_tests)) (λ p. let bad : false ≡ true = c.if-has_leading_zero.ensures.1 p in cc)

use Rattle.std.proofs.Common.{rules, ◌≡◌, ap, ◌∙◌, FitsSigned, w64}
use Rattle.std.proofs.lemmas.Int.{to_z-of_z}
use Rattle.std.specs.Prelude.{unsigned_abs}
use Rattle.std.specs.Int.{int_wrapping_neg, cast_signed}
use Rattle.shade_values.specs.Numbers.{wrapped}
use Rattle.shade_values.proofs.NumberLaws.{leaf_is, wrapped-neg, wrapped-abs}
use Rattle.shade_values.proofs.bits.unary.Goals as goal

pub returns-in-Negate : goal.returns-in-Negate
returns-in-Negate c =
    let a = c.args.leaf.number in
    let fits : FitsSigned w64 a = search rules in
    let result_fits : FitsSigned w64 c.wrapping_neg.result = search rules in
    let value : c.wrapping_neg.result ≡ int_wrapping_neg w64 a = c.wrapping_neg.ensures ∙ ap (int_wrapping_neg w64) (to_z-of_z w64 a fits) in
    rw c.in-Negate.is (leaf_is _ _ _ c.kept.ensures.scalar (c.kept.ensures.number ∙ ap (wrapped _) (to_z-of_z w64 _ result_fits ∙ value) ∙ wrapped-neg _ a fits))

pub returns-in-Abs : goal.returns-in-Abs
returns-in-Abs c =
    let a = c.args.leaf.number in
    let fits : FitsSigned w64 a = search rules in
    let result_fits : FitsSigned w64 c.wrapping_abs.result = search rules in
    let value : c.wrapping_abs.result ≡ cast_signed w64 (unsigned_abs a) = c.wrapping_abs.ensures ∙ ap (λ x. cast_signed w64 (unsigned_abs x)) (to_z-of_z w64 a fits) in
    rw c.in-Abs.is (leaf_is _ _ _ c.kept-in-Abs.ensures.scalar (c.kept-in-Abs.ensures.number ∙ ap (wrapped _) (to_z-of_z w64 _ result_fits ∙ value) ∙ wrapped-abs _ a fits))

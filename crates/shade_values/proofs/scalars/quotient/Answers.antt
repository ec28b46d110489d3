use Rattle.std.proofs.Common.{rules, ◌≡◌, ap, sym, ◌∙◌, FitsSigned, w64}
use Rattle.std.proofs.lemmas.Int.{to_z-of_z}
use Rattle.std.specs.Int.{int_wrapping_div, cast_signed, cast_unsigned}
use Rattle.shade_values.specs.Numbers.{wrapped}
use Rattle.shade_values.proofs.NumberLaws.{leaf_is, wrapped-div, quotient_by}
use Rattle.shade_values.proofs.scalars.quotient.Goals as goal

pub returns : goal.returns
returns c =
    let a = c.args.left.number in
    let b = c.args.right in
    let s = c.args.left.scalar in
    let fits : FitsSigned w64 a = search rules in
    let result_fits : FitsSigned w64 c.wrapping_div.result = search rules in
    let value : c.wrapping_div.result ≡ int_wrapping_div w64 a b =
    c.wrapping_div.ensures
    ∙ ap (λ x. int_wrapping_div w64 x (cast_signed w64 (cast_unsigned w64 b))) (to_z-of_z w64 a fits)
    ∙ ap (int_wrapping_div w64 a) (to_z-of_z w64 b c.ranges.right) in
    leaf_is _ _ _ c.kept-2.ensures.scalar
    (c.kept-2.ensures.number ∙ ap (wrapped s) (to_z-of_z w64 _ result_fits ∙ value) ∙ wrapped-div s a b fits ∙ ap (wrapped s) (sym (quotient_by a b c.if-right-eq0.false)))

use Rattle.std.proofs.Common.{rules, ap, ◌∙◌, FitsSigned, w32, w64}
use Rattle.std.specs.Int.{int_wrap, cast_signed}
use Rattle.std.proofs.lemmas.Int.{to_z-of_z}
use Rattle.shade_values.specs.Numbers.{word}
use Rattle.shade_shape.proofs.values.wrapped.Goals as goal

pub returns-in-I32 : goal.returns-in-I32
unfolding int_wrap
returns-in-I32 c =
    let wide : FitsSigned w64 c.from.result = search rules in
    let fits : FitsSigned w32 c.cast_signed.result = search rules in
    rw c.in-I32.is (
    to_z-of_z w64 _ wide
    ∙ c.from.ensures
    ∙ to_z-of_z w32 _ fits
    ∙ c.cast_signed.ensures
    ∙ ap (cast_signed w32) (c.word.ensures ∙ ap word (to_z-of_z w64 _ c.ranges.number)))

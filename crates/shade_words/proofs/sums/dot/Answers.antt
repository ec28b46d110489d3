use Rattle.std.proofs.Common.{◌≡◌, ap, sym, ◌∙◌, ℕ, ◌*ℤ◌, arith, rules, w64, FitsSigned, length}
use Rattle.std.specs.Int.{int_wrap, cast_signed}
use Rattle.std.specs.Prelude.{slice_index}
use Rattle.shade_values.specs.Numbers.{wrapped}
use Rattle.shade_values.specs.Parts.{lane, parts_of}
use Rattle.shade_values.proofs.DotLaws.{total, dot_step}
use Rattle.shade_values.proofs.NumberLaws.{leaf_is, wrapped-int_wrap}
use Rattle.shade_words.specs.Spans.{value_of}
use Rattle.shade_words.specs.Types.{lay}
use Rattle.shade_words.proofs.Layouts.{count_is}
use Rattle.shade_words.proofs.sums.dot.Goals as goal

pub parts-preserved : goal.parts-preserved
parts-preserved c =
    let left = value_of c.args.types.now (slice_index c.args.words.now) c.args.left in
    let right = value_of c.args.types.now (slice_index c.args.words.now) c.args.right in
    let x = c.part-first.result.number in
    let y = c.part-second.result.number in
    let fits_x : FitsSigned w64 x = search rules in
    let fits_y : FitsSigned w64 y = search rules in
    let here : (lane c.parts.k left).number *ℤ (lane c.parts.k right).number ≡ x *ℤ y =
    sym (ap (λ l. l.number *ℤ y) c.part-first.ensures ∙ ap (λ l. (lane c.parts.k left).number *ℤ l.number) c.part-second.ensures) in
    dot_step (λ k. (lane k left).number *ℤ (lane k right).number) c.parts.k c.parts.total-bits x y (omega (arith, c.parts.auto.total.fits)) fits_x fits_y c.parts.invariant here

pub returns : goal.returns
returns c =
    let left = value_of c.args.types.now (slice_index c.args.words.now) c.args.left in
    let right = value_of c.args.types.now (slice_index c.args.words.now) c.args.right in
    let f = λ (k : ℕ). (lane k left).number *ℤ (lane k right).number in
    let count : c.parts.k ≡ length (parts_of left) =
    omega (arith, c.parts-test.false, c.parts.auto.k-end, c.element_count-k-end.ensures.count, count_is (lay c.args.types.now c.args.left.ty) (slice_index c.args.words.now) c.args.left.first) in
    leaf_is _ _ _ (c.kept.ensures.scalar ∙ ap (λ l. l.scalar) c.part.ensures)
    (c.kept.ensures.number
    ∙ ap (λ l. wrapped l.scalar (cast_signed w64 c.parts.total-bits)) c.part.ensures
    ∙ ap (wrapped (lane 0 left).scalar) (c.parts.invariant ∙ ap (λ n. int_wrap w64 (total f n)) count)
    ∙ wrapped-int_wrap (lane 0 left).scalar (total f (length (parts_of left))))

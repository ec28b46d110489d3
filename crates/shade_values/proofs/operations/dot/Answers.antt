use Rattle.std.proofs.Common.{◌≡◌, ap, sym, ◌∙◌, ℕ, ◌*ℤ◌, arith, rules, w64, FitsSigned, length}
use Rattle.std.specs.Int.{int_wrap, cast_signed}
use Rattle.shade_values.specs.Numbers.{wrapped}
use Rattle.shade_values.specs.Parts.{lane, parts_of}
use Rattle.shade_values.proofs.DotLaws.{total, dot_step}
use Rattle.shade_values.proofs.NumberLaws.{leaf_is, wrapped-int_wrap}
use Rattle.shade_values.proofs.operations.dot.Goals as goal

pub loop-k-preserved : goal.loop-k-preserved
loop-k-preserved c =
    let left = c.args.left.now in
    let right = c.args.right.now in
    let x = c.lane.result.number in
    let y = c.lane-in-loop-k.result.number in
    let fits_x : FitsSigned w64 x = search rules in
    let fits_y : FitsSigned w64 y = search rules in
    let here : (lane c.loop-k.k left).number *ℤ (lane c.loop-k.k right).number ≡ x *ℤ y =
    sym (ap (λ l. l.number *ℤ y) c.lane.ensures ∙ ap (λ l. (lane c.loop-k.k left).number *ℤ l.number) c.lane-in-loop-k.ensures) in
    dot_step (λ k. (lane k left).number *ℤ (lane k right).number) c.loop-k.k c.loop-k.total-bits x y (omega (arith, c.loop-k.auto.total.fits)) fits_x fits_y c.loop-k.invariant here

pub returns : goal.returns
returns c =
    let left = c.args.left.now in
    let right = c.args.right.now in
    let f = λ (k : ℕ). (lane k left).number *ℤ (lane k right).number in
    let count : c.loop-k.k ≡ length (parts_of left) = omega (arith, c.part_count-k-end.ensures) in
    leaf_is _ _ _ (c.kept.ensures.scalar ∙ ap (λ l. l.scalar) c.lane-2.ensures)
    (c.kept.ensures.number
    ∙ ap (λ l. wrapped l.scalar (cast_signed w64 c.loop-k.total-bits)) c.lane-2.ensures
    ∙ ap (wrapped (lane 0 left).scalar) (c.loop-k.invariant ∙ ap (λ n. int_wrap w64 (total f n)) count)
    ∙ wrapped-int_wrap (lane 0 left).scalar (total f (length (parts_of left))))

use Rattle.std.proofs.Common.{◌≡◌, ap, sym, ◌∙◌, ℕ, ◌*ℤ◌, arith, rules, length, w64, FitsSigned, to_z, of_z}
use Rattle.std.specs.Int.{w128}
use Rattle.std.proofs.lemmas.Int.{to_z-of_z}
use Rattle.shade_values.specs.declared.types.Scalar.TheVariants as scalar
use Rattle.shade_values.specs.Parts.{lane, parts_of}
use Rattle.shade_evaluate.specs.Fits.{has_number}
use Rattle.shade_evaluate.proofs.ProductLaws.{no_sum, sum_more, total}
use Rattle.shade_evaluate.proofs.products.dot_fits.Goals as goal

pub loop-k-init : goal.loop-k-init
loop-k-init c = no_sum _

pub loop-k-preserved : goal.loop-k-preserved
loop-k-preserved c =
    let left = c.args.left.now in
    let right = c.args.right.now in
    let k = c.loop-k.k in
    let x = c.lane.result.number in
    let y = c.lane-in-loop-k.result.number in
    let fits_x : FitsSigned w64 x = search rules in
    let fits_p : FitsSigned w128 c.product.result = search rules in
    let same = to_z-of_z w128 c.product.result fits_p in
    let fits_y : FitsSigned w64 y = search rules in
    sum_more (λ n. (lane n left).number *ℤ (lane n right).number) k _ _ _ _ _ c.loop-k.invariant
    (same ∙ c.product.ensures.value ∙ ap (λ z. z *ℤ to_z w64 (of_z w64 y)) (to_z-of_z w64 x fits_x) ∙ ap (λ z. x *ℤ z) (to_z-of_z w64 y fits_y)
    ∙ ap (λ l. l.number *ℤ y) c.lane.ensures ∙ ap (λ l. (lane k left).number *ℤ l.number) c.lane-in-loop-k.ensures)
    (rw same c.product.ensures.small) c.added-sum.ensures.high c.added-sum.ensures.low

pub returns : goal.returns
returns c =
    let left = c.args.left.now in
    let right = c.args.right.now in
    let f = λ (n : ℕ). (lane n left).number *ℤ (lane n right).number in
    let count : c.loop-k.k ≡ length (parts_of left) = omega (arith, c.part_count-k-end.ensures) in
    c.is_wide_sum.ensures ∙ ap (has_number scalar.Abstract) (c.loop-k.invariant.sum ∙ ap (total f) count)

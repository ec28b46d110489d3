use Rattle.std.proofs.Common.{ap, ◌∙◌, arith, set, length-set}
use Rattle.std.proofs.lemmas.Option.{slice_get-get_or}
use Rattle.shade_chains.proofs.OrderLaws.{in_rows, out_rows, row_here}
use Rattle.shade_chains.proofs.TopLaws.{tops_more, tops_end}
use Rattle.shade_chains.proofs.chains.tops_of.Goals as goal

pub functions-preserved : goal.functions-preserved
functions-preserved c =
    let lt = out_rows _ c.args.rows.now _ (c.requires.ordered.below c.functions.number-index 0 c.functions-test.true) in
    record {
      long = length-set c.functions.tops.items _ _ ∙ c.functions.invariant.long;
      below = λ shader values has.
          tops_more c.args.measure shader values c.args.bytes.now _ c.args.order.now c.functions.tops.items _ c.index-rows-place.result.items c.functions.number-index _ has c.requires.ordered c.requires.stand
          (slice_get-get_or c.args.order.now c.functions.number-index 0 c.functions-test.true) (row_here _ c.args.rows.now _ c.index-rows-place.result lt c.index-rows-place.is) (omega (arith, lt, c.functions.invariant.long))
          (ap (set c.functions.tops.items _) (rw (c.deref.ensures.value, c.deref-in-functions.ensures.value) at c.top_by-top.ensures)) (c.functions.invariant.below shader values has);
    }

pub returns : goal.returns
returns c =
    λ shader values has k lt.
    tops_end c.args.measure shader values _ c.args.order.now c.functions.tops.items c.functions.number-index c.requires.ordered (omega (arith, c.functions-test.false)) (c.functions.invariant.below shader values has) k (in_rows _ c.args.rows.now k lt)

use Rattle.shade_rules.proofs.RowLaws.{gathered_next, gathered_all}
use Rattle.shade_rules.proofs.calls.usages.Goals as goal

pub functions-preserved : goal.functions-preserved
functions-preserved c =
    gathered_next c.args.functions.now c.args.order.now c.functions.number-index 0 _ _ c.index-functions-place.result c.in_ok-row.row c.requires.ordered c.functions-test.true c.index-functions-place.is c.functions.invariant
    (rw c.deref.ensures.value at c.in_ok-row.ensures) c.set_row.ensures

pub returns : goal.returns
returns c = gathered_all c.args.functions.now c.args.order.now c.functions.number-index _ c.requires.ordered c.functions-test.false c.functions.invariant

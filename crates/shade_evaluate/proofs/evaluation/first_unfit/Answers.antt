use Rattle.shade_evaluate.proofs.TurnLaws.{unfit_none, unfit_here, unfit_turn}
use Rattle.shade_evaluate.proofs.evaluation.first_unfit.Goals as goal

pub returns-in_default : goal.returns-in_default
returns-in_default c = unfit_none c.args.op c.args.to.now c.args.values.now c.args.places.now c.loop-k.k c.in_default.ensures c.loop-k.invariant

pub returns-then-not-meets : goal.returns-then-not-meets
returns-then-not-meets c =
    unfit_here c.args.op c.args.to.now c.args.values.now c.args.places.now c.loop-k.k c.index-values-k.result c.in-Some.place _ _ c.meets.result
    c.loop-k-test.true c.index-values-k.is c.in-Some.ensures c.asked_at.ensures c.target.ensures c.meets.ensures c.if-not-meets.true c.loop-k.invariant

pub loop-k-preserved : goal.loop-k-preserved
loop-k-preserved c =
    unfit_turn c.args.op c.args.to.now c.args.values.now c.args.places.now c.loop-k.k c.index-values-k.result c.in-Some.place _ _ c.meets.result
    c.loop-k-test.true c.index-values-k.is c.in-Some.ensures c.asked_at.ensures c.target.ensures c.meets.ensures c.if-not-meets.false c.loop-k.invariant

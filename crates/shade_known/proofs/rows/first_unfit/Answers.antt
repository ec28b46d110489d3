use Rattle.shade_known.proofs.Turns.{unfit_none, unfit_here, unfit_turn}
use Rattle.shade_known.proofs.rows.first_unfit.Goals as goal

pub returns-in_default : goal.returns-in_default
returns-in_default c = unfit_none c.args.facts.now c.args.operands.now c.args.params.now c.loop-i.i c.in_default.ensures c.loop-i.invariant

pub returns-then-not-is_fit : goal.returns-then-not-is_fit
returns-then-not-is_fit c =
    unfit_here c.args.facts.now c.args.operands.now c.args.params.now c.loop-i.i _ c.in-Some.ty _ c.is_fit.result c.loop-i-test.true c.in-Some.ensures c.value_at.ensures c.is_fit.ensures c.if-not-is_fit.true c.loop-i.invariant

pub loop-i-preserved : goal.loop-i-preserved
loop-i-preserved c =
    unfit_turn c.args.facts.now c.args.operands.now c.args.params.now c.loop-i.i _ c.in-Some.ty _ c.is_fit.result c.loop-i-test.true c.in-Some.ensures c.value_at.ensures c.is_fit.ensures c.if-not-is_fit.false c.loop-i.invariant

use Rattle.shade_scope.proofs.TurnLaws.{skips_turn}
use Rattle.shade_scope.proofs.naming.skips.Goals as goal

pub loop-inner-preserved : goal.loop-inner-preserved
loop-inner-preserved c = skips_turn c.args.bound c.args.loops.now _ _ c.loop-inner-test.true _ _ _ c.skip.ensures c.earlier-least.ensures c.loop-inner.invariant

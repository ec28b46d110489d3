use Rattle.std.proofs.Common.{rules}
use Rattle.shade_report.proofs.InstanceLaws.{one_turn}
use Rattle.shade_report.proofs.instance.add_turns.Goals as goal

pub loop-turn-preserved : goal.loop-turn-preserved
loop-turn-preserved c =
    one_turn c.in-Some.others.now c.loop-turn.turn-index c.from-in-loop-turn.result _ _ _ c.loop-turn-test.true (search rules) c.in_ok-add_number-2.ensures c.loop-turn.invariant

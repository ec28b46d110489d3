use Rattle.shade_scope.proofs.GivenLaws.{begun, conflicts_turn}
use Rattle.shade_scope.proofs.conflicts.least_conflict.Goals as goal

pub loop-event-init : goal.loop-event-init
loop-event-init c = begun c.args.events.now _ c.new-rules.ensures.empty

pub loop-event-preserved : goal.loop-event-preserved
loop-event-preserved c =
    conflicts_turn c.args.events.now _ _ c.loop-event-test.true _ _ _ _ _ c.conflict_of.ensures c.earlier-least.ensures c.in_ok-keep_filter.ensures c.loop-event.invariant

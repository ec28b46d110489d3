use Rattle.std.proofs.Common.{rules}
use Rattle.shade_scope.proofs.TurnLaws.{begun, named_turn}
use Rattle.shade_scope.proofs.naming.name_all.Goals as goal

pub loop-event-init : goal.loop-event-init
loop-event-init c = begun c.args.names.now c.args.events.now _ _ _ (search rules) c.in_ok-uses.ensures (search rules)

pub loop-event-preserved : goal.loop-event-preserved
loop-event-preserved c =
    named_turn c.args.names.now c.args.events.now _ _ c.loop-event-test.true _ _ _ _ _ _ _ _ _ c.in_ok-turn.ensures c.note.ensures c.in_ok-add_link.ensures c.fault_of.ensures c.earlier-least.ensures c.loop-event.invariant

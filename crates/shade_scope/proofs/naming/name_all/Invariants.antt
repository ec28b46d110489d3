use Rattle.shade_scope.proofs.TurnLaws.{IsNamed}
use Rattle.shade_scope.proofs.naming.name_all.Given as goal

abbrev pub invariant-loop-event : goal.invariant-loop-event
invariant-loop-event l = IsNamed l.names l.events l.event-index l.state l.uses.items l.links.items l.least

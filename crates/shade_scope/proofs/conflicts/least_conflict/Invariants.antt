use Rattle.shade_scope.proofs.GivenLaws.{AreKept}
use Rattle.shade_scope.proofs.conflicts.least_conflict.Given as goal

abbrev pub invariant-loop-event : goal.invariant-loop-event
invariant-loop-event l = AreKept l.events l.event-index l.rules l.least

use Rattle.std.proofs.Common.{◌≡◌, ◌++◌, drop, None}
use Rattle.std.specs.List.{flat_map}
use Rattle.shade_scope.specs.Grades.{placed}
use Rattle.shade_scope.proofs.naming.blank_uses.Given as goal

abbrev pub invariant-loop-event : goal.invariant-loop-event
invariant-loop-event l = l.uses.items ++ flat_map (placed None) (drop l.event-index l.events) ≡ flat_map (placed None) l.events

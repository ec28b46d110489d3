use Rattle.std.proofs.Common.{◌≡◌, ◌++◌, drop}
use Rattle.std.specs.List.{flat_map}
use Rattle.shade_base.specs.declared.severity.Severity.TheVariants.{Error}
use Rattle.shade_scope.specs.Grades.{placed}
use Rattle.shade_scope.proofs.ranges.blank_grades.Given as goal

abbrev pub invariant-loop-event : goal.invariant-loop-event
invariant-loop-event l = l.filters.items ++ flat_map (placed Error) (drop l.event-index l.events) ≡ flat_map (placed Error) l.events

use Rattle.std.proofs.Common.{◌≡◌, drop}
use Rattle.shade_base.specs.declared.severity.Severity.TheVariants.{Error}
use Rattle.shade_scope.specs.Grades.{blank, grades, outside}
use Rattle.shade_scope.proofs.ranges.grades.Given as goal

abbrev pub invariant-loop-event : goal.invariant-loop-event
invariant-loop-event l = grades l.names l.ranges (drop l.event-index l.events) l.filters.items ≡ grades l.names outside l.events (blank Error l.events)

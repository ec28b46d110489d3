use Rattle.std.proofs.Common.{◌≤◌}
use Rattle.shade_flow.specs.Work.{Holds}
use Rattle.shade_flow.proofs.work.all_points.Given as goal

abbrev pub invariant-left : goal.invariant-left
invariant-left l = record { holds : Holds l.queue.items l.left l.nodes; low : l.left ≤ l.nodes }

abbrev pub decreases-left : goal.decreases-left
decreases-left l = l.left

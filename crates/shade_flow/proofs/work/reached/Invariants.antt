use Rattle.shade_flow.specs.Work.{IsWork, work}
use Rattle.shade_flow.proofs.work.reached.Given as goal

abbrev pub invariant-points : goal.invariant-points
invariant-points l = IsWork l.graph.edges l.fn.starts.items l.makes l.passes l.work.rows.items l.work.queue.items

abbrev pub decreases-points : goal.decreases-points
decreases-points l = work l.work.rows.items l.work.queue.items

use Rattle.std.proofs.Common.{length}
use Rattle.shade_job.proofs.Lines.{Read}
use Rattle.shade_job.proofs.read_steps.Given as goal

abbrev pub invariant-lines : goal.invariant-lines
invariant-lines l = Read l.lanes l.bytes l.steps.items l.rest

abbrev pub decreases-lines : goal.decreases-lines
decreases-lines l = length l.rest

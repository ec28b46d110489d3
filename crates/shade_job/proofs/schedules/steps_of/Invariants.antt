use Rattle.std.proofs.Common.{◌≡◌, ◌++◌, drop}
use Rattle.shade_job.specs.Schedules.{steps_of}
use Rattle.shade_job.proofs.schedules.steps_of.Given as goal

abbrev pub invariant-loop-run : goal.invariant-loop-run
invariant-loop-run l = l.steps.items ++ steps_of (drop l.run-index l.runs) ≡ steps_of l.runs

use Rattle.std.proofs.Common.{◌≡◌, ◌+◌, drop}
use Rattle.shade_job.specs.Schedules.{step_count}
use Rattle.shade_job.proofs.schedules.are_few.Given as goal

abbrev pub invariant-loop-run : goal.invariant-loop-run
invariant-loop-run l = l.left + step_count l.runs ≡ 10000000 + step_count (drop l.run-index l.runs)

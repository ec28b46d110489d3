use Rattle.std.proofs.Common.{◌≡◌, ◌++◌, replicate}
use Rattle.shade_job.proofs.schedules.add_run.Given as goal

abbrev pub invariant-steps : goal.invariant-steps
invariant-steps l = l.steps.items ≡ l.initial.steps.items ++ replicate l._step l.run.lane

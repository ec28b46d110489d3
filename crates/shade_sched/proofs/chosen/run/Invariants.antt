use Rattle.std.proofs.Common.{◌-◌, ◌≤◌}
use Rattle.shade_group.specs.Seen.{machine_of}
use Rattle.shade_sched.proofs.PickLaws.{Taken}
use Rattle.shade_sched.proofs.chosen.run.Given as goal

abbrev pub invariant-steps : goal.invariant-steps
invariant-steps g l = record {
  taken : Taken (g.F.Choosing.gives l.chooser) (machine_of l.fn.group) (machine_of l.group) l.step;
  few : l.step ≤ l.limit;
}

abbrev pub decreases-steps : goal.decreases-steps
decreases-steps g l = l.limit - l.step

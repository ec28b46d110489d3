use Rattle.std.proofs.Common.{◌≡◌, take, drop, length}
use Rattle.shade_group.specs.Group.{run}
use Rattle.shade_group.specs.Seen.{machine_of}
use Rattle.shade_group.proofs.group.Group.run_list.Given as goal

abbrev pub invariant-loop-number : goal.invariant-loop-number
invariant-loop-number l = record {
  left : run (machine_of l.self) (drop l.number-index l.numbers) ≡ run (machine_of l.fn.self) l.numbers;
  done : machine_of l.self ≡ run (machine_of l.fn.self) (take l.number-index l.numbers);
  lanes : length (machine_of l.self).members ≡ length (machine_of l.fn.self).members;
}

use Rattle.std.proofs.Common.{◌≡◌, ◌++◌, ◌-◌, length}
use Rattle.shade_group.specs.Group.{lane_count, members_from}
use Rattle.shade_group.specs.Inside.{members_of}
use Rattle.shade_group.proofs.begin.lanes_of.Given as goal

abbrev pub invariant-loop-number : goal.invariant-loop-number
invariant-loop-number l = record {
  members : members_of l.lanes.items ++ members_from l.inputs l.function l.size l.number (lane_count l.size - l.number) ≡ members_from l.inputs l.function l.size 0 (lane_count l.size);
  len : length l.lanes.items ≡ l.number;
}

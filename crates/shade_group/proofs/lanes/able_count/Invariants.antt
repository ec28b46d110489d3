use Rattle.std.proofs.Common.{◌≡◌, ◌+◌, ◌≤◌, drop, length}
use Rattle.shade_group.specs.Group.{able_from}
use Rattle.shade_group.specs.Inside.{members_of}
use Rattle.shade_group.proofs.lanes.able_count.Given as goal

abbrev pub invariant-loop-lane : goal.invariant-loop-lane
invariant-loop-lane l = record {
  few : l.count ≤ l.lane-index;
  sum : l.count + length (able_from l.lane-index (members_of (drop l.lane-index l.lanes))) ≡ length (able_from 0 (members_of l.lanes));
}

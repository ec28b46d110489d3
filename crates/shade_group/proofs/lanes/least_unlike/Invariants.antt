use Rattle.std.proofs.Common.{◌≡◌, drop}
use Rattle.shade_group.specs.Group.{unlike_from}
use Rattle.shade_group.specs.Inside.{members_of}
use Rattle.shade_group.proofs.lanes.least_unlike.Given as goal

abbrev pub invariant-loop-lane : goal.invariant-loop-lane
invariant-loop-lane l = record {
  here : l.number ≡ l.lane-index;
  same : unlike_from l.lane-index l.state (members_of (drop l.lane-index l.lanes)) ≡ unlike_from 0 l.state (members_of l.lanes);
}

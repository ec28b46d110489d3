use Rattle.std.proofs.Common.{◌≡◌, drop}
use Rattle.std.specs.Prelude.{slice_get}
use Rattle.shade_group.specs.Group.{able_from}
use Rattle.shade_group.specs.Inside.{members_of}
use Rattle.shade_group.proofs.lanes.able_at.Given as goal

abbrev pub invariant-loop-lane : goal.invariant-loop-lane
invariant-loop-lane l = record {
  here : l.number ≡ l.lane-index;
  same : slice_get (able_from l.lane-index (members_of (drop l.lane-index l.lanes))) l.left ≡ slice_get (able_from 0 (members_of l.lanes)) l.k;
}

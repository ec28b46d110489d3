use Rattle.std.proofs.Common.{◌≤◌, length, rules}
use Rattle.shade_group.proofs.LaneLaws.{able_found}
use Rattle.shade_group.proofs.lanes.able_at.Goals as goal

pub returns : goal.returns
returns c =
    let past : length c.args.lanes.now ≤ c.loop-lane.lane-index = search rules in
    absurd (able_found c.args.lanes.now c.loop-lane.lane-index c.loop-lane.left c.args.k past c.loop-lane.invariant.same c.requires.within)

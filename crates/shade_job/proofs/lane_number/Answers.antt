use Rattle.std.proofs.Common.{rules}
use Rattle.shade_job.proofs.Lines.{other_lane}
use Rattle.shade_job.proofs.lane_number.Goals as goal

pub returns-else-number-lanes : goal.returns-else-number-lanes
returns-else-number-lanes c n below is = other_lane c.args.text.now c.in-Some.number c.args.lanes c.in-Some.ensures (search rules) (search rules) c.if-number-lanes.false n below is

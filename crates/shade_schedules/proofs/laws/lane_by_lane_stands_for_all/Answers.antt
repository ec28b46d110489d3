use Rattle.shade_schedules.proofs.Scripts.{scripts_independent}
use Rattle.shade_schedules.proofs.laws.lane_by_lane_stands_for_all.Goals as goal

pub returns : goal.returns
returns c = scripts_independent

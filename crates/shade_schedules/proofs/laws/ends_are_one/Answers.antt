use Rattle.shade_schedules.proofs.Scripts.{scripts_leave_one}
use Rattle.shade_schedules.proofs.laws.ends_are_one.Goals as goal

pub returns : goal.returns
returns c = scripts_leave_one

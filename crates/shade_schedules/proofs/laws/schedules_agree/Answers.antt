use Rattle.shade_schedules.proofs.Scripts.{scripts_commute}
use Rattle.shade_schedules.proofs.laws.schedules_agree.Goals as goal

pub returns : goal.returns
returns c = scripts_commute

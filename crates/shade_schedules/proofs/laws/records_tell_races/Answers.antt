use Rattle.shade_schedules.proofs.Scripts.{scripts_tell_races}
use Rattle.shade_schedules.proofs.laws.records_tell_races.Goals as goal

pub returns : goal.returns
returns c = scripts_tell_races

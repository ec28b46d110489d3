use Rattle.shade_race.proofs.Told.{races_are_least}
use Rattle.shade_race.proofs.laws.races_are_least.Goals as goal

pub returns : goal.returns
returns c = races_are_least

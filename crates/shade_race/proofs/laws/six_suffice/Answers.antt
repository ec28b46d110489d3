use Rattle.shade_race.proofs.WordLaws.{six_suffice}
use Rattle.shade_race.proofs.laws.six_suffice.Goals as goal

pub returns : goal.returns
returns c = six_suffice

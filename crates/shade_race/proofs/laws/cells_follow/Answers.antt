use Rattle.shade_race.proofs.WordLaws.{cells_follow}
use Rattle.shade_race.proofs.laws.cells_follow.Goals as goal

pub returns : goal.returns
returns c = cells_follow

use Rattle.shade_race.proofs.WordLaws.{fresh_tells}
use Rattle.shade_race.proofs.laws.present_tells.Goals as goal

pub returns : goal.returns
returns c = fresh_tells

use Rattle.shade_race.proofs.Meaning.{record_is_least}
use Rattle.shade_race.proofs.laws.record_is_least.Goals as goal

pub returns : goal.returns
returns c = record_is_least

use Rattle.shade_race.proofs.Meaning.{no_record_no_race}
use Rattle.shade_race.proofs.laws.no_record_no_race.Goals as goal

pub returns : goal.returns
returns c = no_record_no_race

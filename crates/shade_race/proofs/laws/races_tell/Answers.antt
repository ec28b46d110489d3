use Rattle.shade_race.proofs.BookLaws.{races_tell}
use Rattle.shade_race.proofs.laws.races_tell.Goals as goal

pub returns : goal.returns
returns c = races_tell

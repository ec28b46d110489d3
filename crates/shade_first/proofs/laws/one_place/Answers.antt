use Rattle.shade_first.proofs.TextLaws.{one_place}
use Rattle.shade_first.proofs.laws.one_place.Goals as goal

pub returns : goal.returns
returns c = one_place

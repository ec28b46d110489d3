use Rattle.shade_known.proofs.OneAnswer.{operates_in_one_way}
use Rattle.shade_known.proofs.law.operates_in_one_way.Goals as goal

pub returns : goal.returns
returns c = operates_in_one_way c.at_most_one_is_best.ensures

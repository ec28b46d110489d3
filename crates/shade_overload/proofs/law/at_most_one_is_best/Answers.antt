use Rattle.shade_overload.proofs.OneBest.{one_best}
use Rattle.shade_overload.proofs.law.at_most_one_is_best.Goals as goal

pub returns : goal.returns
returns c = one_best

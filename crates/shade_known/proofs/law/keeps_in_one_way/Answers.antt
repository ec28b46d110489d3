use Rattle.shade_known.proofs.OneId.{keeps_in_one_way}
use Rattle.shade_known.proofs.law.keeps_in_one_way.Goals as goal

pub returns : goal.returns
returns c = keeps_in_one_way

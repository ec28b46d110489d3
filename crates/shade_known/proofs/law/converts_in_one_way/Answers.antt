use Rattle.shade_known.proofs.OneAnswer.{converts_in_one_way}
use Rattle.shade_known.proofs.law.converts_in_one_way.Goals as goal

pub returns : goal.returns
returns c = converts_in_one_way

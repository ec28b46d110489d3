use Rattle.shade_tags.proofs.OrderLaws.{callees_first}
use Rattle.shade_tags.proofs.law.callees_are_analysed_first.Goals as goal

pub returns : goal.returns
returns c = callees_first

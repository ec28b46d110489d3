use Rattle.shade_tags.proofs.OrderLaws.{all_are_analysed}
use Rattle.shade_tags.proofs.law.all_functions_are_analysed.Goals as goal

pub returns : goal.returns
returns c = all_are_analysed

use Rattle.shade_whole.proofs.CountLaws.{counted}
use Rattle.shade_whole.proofs.law.functions_are_counted.Goals as goal

pub returns : goal.returns
returns c = counted

use Rattle.shade_whole.proofs.RunLaws.{numbered}
use Rattle.shade_whole.proofs.law.statements_are_numbered.Goals as goal

pub returns : goal.returns
returns c = numbered

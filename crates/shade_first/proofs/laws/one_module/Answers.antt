use Rattle.shade_first.proofs.TextLaws.{one_module}
use Rattle.shade_first.proofs.laws.one_module.Goals as goal

pub returns : goal.returns
returns c = one_module

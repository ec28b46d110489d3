use Rattle.shade_first.proofs.TextLaws.{few_statements}
use Rattle.shade_first.proofs.laws.few_statements.Goals as goal

pub returns : goal.returns
returns c = few_statements

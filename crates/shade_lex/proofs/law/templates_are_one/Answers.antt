use Rattle.shade_lex.proofs.PairLaws.{templates_once}
use Rattle.shade_lex.proofs.law.templates_are_one.Goals as goal

pub returns : goal.returns
returns c = templates_once

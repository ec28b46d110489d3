use Rattle.shade_first.proofs.Prints.{beginnings_are_texts}
use Rattle.shade_first.proofs.laws.beginnings_are_texts.Goals as goal

pub returns : goal.returns
returns c = beginnings_are_texts

use Rattle.shade_lex.proofs.OnceLaws.{read_once}
use Rattle.shade_lex.proofs.law.texts_are_read_once.Goals as goal

pub returns : goal.returns
returns c = read_once

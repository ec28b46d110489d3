use Rattle.shade_parse.proofs.OnceLaws.{parsed_once}
use Rattle.shade_parse.proofs.law.tokens_are_parsed_once.Goals as goal

pub returns : goal.returns
returns c = parsed_once

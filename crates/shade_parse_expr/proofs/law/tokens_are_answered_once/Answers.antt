use Rattle.shade_parse_expr.proofs.OnceLaws.{answered_once}
use Rattle.shade_parse_expr.proofs.law.tokens_are_answered_once.Goals as goal

pub returns : goal.returns
returns c = answered_once

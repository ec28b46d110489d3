use Rattle.shade_top.proofs.ReadingLaws.{syntax_reading}
use Rattle.shade_top.proofs.text.read_tokens.Goals as goal

pub returns : goal.returns
returns c =
    syntax_reading c.args.tokens.now.text c.refused.result c.args.tokens.now.tokens c.in_ok-pairs.pairs c.requires c.text-text.ensures.tokens c.in_ok-pairs.ensures c.in-Err.fault c.syntax_refusal.result c.syntax_refusal.ensures c.in-Err.ensures c.refused.ensures

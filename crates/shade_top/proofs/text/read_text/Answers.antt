use Rattle.shade_top.proofs.ReadingLaws.{lex_reading}
use Rattle.shade_top.proofs.text.read_text.Goals as goal

pub returns-in-Err : goal.returns-in-Err
returns-in-Err c = lex_reading c.args.text.now c.refused.result c.in-Err.fault c.lex_refusal.result c.lex_refusal.ensures c.requires c.in-Err.ensures.fault c.refused.ensures

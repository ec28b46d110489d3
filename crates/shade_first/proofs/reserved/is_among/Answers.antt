use Rattle.std.proofs.Common.{◌∙◌}
use Rattle.shade_first.proofs.Words.{among}
use Rattle.shade_first.proofs.reserved.is_among.Goals as goal

pub returns : goal.returns
returns c = c.contains.ensures.value ∙ among c.args.words.now c.args.word.now

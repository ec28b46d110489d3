use Rattle.shade_top.proofs.CompleteLaws.{completeness}
use Rattle.shade_top.proofs.law.fitting_words_are_answered.Goals as goal

pub returns : goal.returns
returns c = completeness

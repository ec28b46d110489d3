use Rattle.shade_first.proofs.TextLaws.{never_both}
use Rattle.shade_first.proofs.laws.never_both.Goals as goal

pub returns : goal.returns
returns c = never_both

use Rattle.shade_tags.proofs.UsedLaws.{used_are_tags}
use Rattle.shade_tags.proofs.law.used_tags_are_tags.Goals as goal

pub returns : goal.returns
returns c = used_are_tags

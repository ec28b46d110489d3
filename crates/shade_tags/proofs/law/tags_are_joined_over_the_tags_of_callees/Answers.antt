use Rattle.shade_tags.proofs.TagLaws.{by_callees}
use Rattle.shade_tags.proofs.law.tags_are_joined_over_the_tags_of_callees.Goals as goal

pub returns : goal.returns
returns c = by_callees

use Rattle.shade_tags.proofs.TagLaws.{by_paths}
use Rattle.shade_tags.proofs.law.tags_are_joined_by_paths.Goals as goal

pub returns : goal.returns
returns c = by_paths

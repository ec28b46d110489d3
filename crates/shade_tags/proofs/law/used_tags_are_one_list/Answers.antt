use Rattle.shade_tags.proofs.OneReports.{one_used}
use Rattle.shade_tags.proofs.law.used_tags_are_one_list.Goals as goal

pub returns : goal.returns
returns c = one_used

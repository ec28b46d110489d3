use Rattle.shade_tags.proofs.TagLaws.{closed_is_table}
use Rattle.shade_tags.proofs.law.closed_tables_are_the_table.Goals as goal

pub returns : goal.returns
returns c = closed_is_table

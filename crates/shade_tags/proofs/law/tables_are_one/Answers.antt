use Rattle.shade_tags.proofs.OneTables.{one_table}
use Rattle.shade_tags.proofs.law.tables_are_one.Goals as goal

pub returns : goal.returns
returns c = one_table

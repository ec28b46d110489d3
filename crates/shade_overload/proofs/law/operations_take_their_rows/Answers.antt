use Rattle.shade_overload.proofs.OneBest.{row_taken}
use Rattle.shade_overload.proofs.law.operations_take_their_rows.Goals as goal

pub returns : goal.returns
returns c = row_taken

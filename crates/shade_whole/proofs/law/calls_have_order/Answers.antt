use Rattle.shade_whole.proofs.CountLaws.{ordered}
use Rattle.shade_whole.proofs.law.calls_have_order.Goals as goal

pub returns : goal.returns
returns c = ordered

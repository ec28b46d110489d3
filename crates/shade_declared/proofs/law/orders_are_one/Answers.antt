use Rattle.shade_declared.proofs.OneOrder.{orders_are_one}
use Rattle.shade_declared.proofs.law.orders_are_one.Goals as goal

pub returns : goal.returns
returns c = orders_are_one

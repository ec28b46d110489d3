use Rattle.shade_declared.proofs.Standing.{orders_have_each_once}
use Rattle.shade_declared.proofs.law.orders_have_each_once.Goals as goal

pub returns : goal.returns
returns c = orders_have_each_once

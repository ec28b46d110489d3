use Rattle.shade_orders.proofs.Numbered.{orders_agree}
use Rattle.shade_orders.proofs.laws.orders_agree.Goals as goal

pub returns : goal.returns
returns c = orders_agree

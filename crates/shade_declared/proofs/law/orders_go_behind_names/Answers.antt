use Rattle.shade_declared.proofs.Standing.{orders_go_behind_names}
use Rattle.shade_declared.proofs.law.orders_go_behind_names.Goals as goal

pub returns : goal.returns
returns c = orders_go_behind_names

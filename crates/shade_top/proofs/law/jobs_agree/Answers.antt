use Rattle.shade_top.proofs.OrderLaws.{jobs_agree}
use Rattle.shade_top.proofs.law.jobs_agree.Goals as goal

pub returns : goal.returns
returns c = jobs_agree c.first_form_is_ready.ensures c.orders_agree.ensures

use Rattle.shade_top.proofs.Firsts.{ready}
use Rattle.shade_top.proofs.ready.first_form_is_ready.Goals as goal

pub returns : goal.returns
returns c = ready c.few_statements.ensures

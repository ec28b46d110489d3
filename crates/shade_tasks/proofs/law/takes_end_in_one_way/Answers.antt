use Rattle.shade_tasks.proofs.OneEnd.{takes_end_in_one_way}
use Rattle.shade_tasks.proofs.law.takes_end_in_one_way.Goals as goal

pub returns : goal.returns
returns c = takes_end_in_one_way c.steps_find_one_thing.ensures c.keeps_in_one_way.ensures

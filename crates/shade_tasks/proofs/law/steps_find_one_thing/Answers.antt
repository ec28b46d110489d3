use Rattle.shade_tasks.proofs.OneAnswer.{steps_find_one_thing}
use Rattle.shade_tasks.proofs.law.steps_find_one_thing.Goals as goal

pub returns : goal.returns
returns c = steps_find_one_thing c.operates_in_one_way.ensures c.converts_in_one_way.ensures

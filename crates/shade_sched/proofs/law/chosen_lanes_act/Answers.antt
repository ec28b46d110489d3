use Rattle.shade_sched.proofs.ActLaws.{lanes_act}
use Rattle.shade_sched.proofs.law.chosen_lanes_act.Goals as goal

pub returns : goal.returns
returns c = lanes_act

use Rattle.shade_sound.proofs.WayLaws.{steps_are_ways}
use Rattle.shade_sound.proofs.law.lanes_go_by_flow.Goals as goal

pub returns : goal.returns
returns c = steps_are_ways

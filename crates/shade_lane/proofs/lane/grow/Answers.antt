use Rattle.std.proofs.Common.{◌∙◌, ap}
use Rattle.shade_lane.specs.Seen.{slot_value}
use Rattle.shade_lane.proofs.StepLaws.{grown}
use Rattle.shade_lane.proofs.lane.grow.Goals as goal

pub room-preserved : goal.room-preserved
room-preserved c = ap slot_value c.in_ok-push.ensures.items ∙ (grown c.room.slots.items ∙ c.room.invariant)

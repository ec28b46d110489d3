use Rattle.std.proofs.Common.{◌≡◌, ◌+◌, ◌-◌, vec_len}
use Rattle.shade_lane.specs.Seen.{slot_value}
use Rattle.shade_lane.proofs.lane.grow.Given as goal

abbrev pub invariant-room : goal.invariant-room
invariant-room l = slot_value l.slots.items ≡ slot_value l.fn.slots.items

abbrev pub decreases-room : goal.decreases-room
decreases-room l = l.number + 1 - vec_len l.slots

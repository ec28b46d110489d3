use Rattle.std.proofs.Common.{◌≡◌, map, drop}
use Rattle.shade_lane.specs.Lane.{all_known, operand_value}
use Rattle.shade_lane.specs.Seen.{slot_value}
use Rattle.shade_lane.proofs.KnownLaws.{after}
use Rattle.shade_lane.proofs.values.all_known.Given as goal

-- the values so far, and those of what is left
abbrev pub invariant-loop-operand : goal.invariant-loop-operand
invariant-loop-operand l =
    after l.values.items (map (operand_value l.params (slot_value l.slots)) (drop l.operand-index l.args)) ≡ all_known (map (operand_value l.params (slot_value l.slots)) l.args)

use Rattle.std.proofs.Common.{◌≡◌, drop}
use Rattle.shade_values.specs.Parts.{lanes}
use Rattle.shade_evaluate.proofs.parts.lanes.Given as goal

abbrev pub invariant-loop-value : goal.invariant-loop-value
invariant-loop-value l = lanes (drop l.value-index l.values) ≡ lanes l.values

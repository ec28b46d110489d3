use Rattle.std.proofs.Common.{◌≡◌, map}
use Rattle.std.specs.List.{range_with_len}
use Rattle.shade_values.specs.declared.value.Value.TheVariants as value
use Rattle.shade_values.specs.Apply.{at_lane}
use Rattle.shade_values.proofs.operations.each_lane.Given as goal

abbrev pub invariant-loop-k : goal.invariant-loop-k
invariant-loop-k l = l.parts ≡ map (λ k. value.One (at_lane l.op l.args k)) (range_with_len 0 l.k)

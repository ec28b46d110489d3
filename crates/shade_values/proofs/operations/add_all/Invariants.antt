use Rattle.std.proofs.Common.{◌≡◌, ◌++◌, map, take}
use Rattle.shade_values.specs.Parts.{own_leaf}
use Rattle.shade_values.specs.Apply.{converted_part}
use Rattle.shade_values.proofs.operations.add_all.Given as goal

abbrev pub invariant-loop-value : goal.invariant-loop-value
invariant-loop-value l = l.parts ≡ l.initial.parts ++ map (λ v. converted_part l.scalar (own_leaf v)) (take l.value-index l.values)

use Rattle.std.proofs.Common.{◌≡◌, map, take}
use Rattle.shade_values.specs.declared.value.Value.TheVariants as value
use Rattle.shade_values.specs.Parts.{lane}
use Rattle.shade_values.proofs.operations.picked.Given as goal

abbrev pub invariant-loop-letter : goal.invariant-loop-letter
invariant-loop-letter l = l.parts ≡ map (λ k. value.One (lane k l.value)) (take l.letter-index l.letters)

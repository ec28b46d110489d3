use Rattle.std.proofs.Common.{◌≡◌, map, take}
use Rattle.std.specs.List.{flat_map}
use Rattle.shade_values.specs.Parts.{leaves_of}
use Rattle.shade_values.specs.Apply.{converted_part}
use Rattle.shade_values.proofs.operations.joined.Given as goal

abbrev pub invariant-loop-value : goal.invariant-loop-value
invariant-loop-value l = l.parts ≡ map (converted_part l.scalar) (flat_map leaves_of (take l.value-index l.args))

use Rattle.std.proofs.Common.{take}
use Rattle.std.specs.Prelude.{All}
use Rattle.shade_values.specs.Shape.{plain}
use Rattle.shade_values.specs.Typed.{IsValueOf}
use Rattle.shade_shape.proofs.values.are_scalars_of.Given as goal

abbrev pub invariant-parts : goal.invariant-parts
invariant-parts l = All (IsValueOf (plain l.scalar)) (take l.part-index l.parts)

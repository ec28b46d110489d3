use Rattle.std.proofs.Common.{◌≡◌, map, take}
use Rattle.shade_overload.specs.Patterns.{recast}
use Rattle.shade_overload.proofs.vector.recast_all.Given as goal

abbrev pub invariant-loop-ty : goal.invariant-loop-ty
invariant-loop-ty l = l.params ≡ map (recast l.scalar) (take l.ty-index l.types)

use Rattle.std.proofs.Common.{◌≡◌, take}
use Rattle.shade_overload.proofs.params.ParamTypes.of.Given as goal

abbrev pub invariant-loop-ty : goal.invariant-loop-ty
invariant-loop-ty l = l.params ≡ take l.ty-index l.types

use Rattle.std.proofs.Common.{◌↔◌, drop}
use Rattle.shade_overload.specs.Patterns.{Fill}
use Rattle.shade_overload.proofs.vector.fills.Given as goal

abbrev pub invariant-loop-ty : goal.invariant-loop-ty
invariant-loop-ty l = Fill l.types l.fn.count ↔ Fill (drop l.ty-index l.types) l.left

use Rattle.std.proofs.Common.{take}
use Rattle.std.specs.Prelude.{All}
use Rattle.shade_core.specs.HasShape.{MayTake}
use Rattle.shade_shape.proofs.signature.may_take_all.Given as goal

abbrev pub invariant-loop-param : goal.invariant-loop-param
invariant-loop-param l = All (MayTake l.types l.entry) (take l.param-index l.params)

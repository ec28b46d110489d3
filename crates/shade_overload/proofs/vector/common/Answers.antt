use Rattle.std.proofs.Common.{arith}
use Rattle.shade_values.specs.declared.types.Scalar.TheVariants as of_scalar
use Rattle.shade_overload.proofs.PatternLaws.{distance_below}
use Rattle.shade_overload.proofs.vector.common.Goals as goal

pub returns : goal.returns
returns c = λ s. c.loop-scalar.invariant s (omega (arith, distance_below of_scalar.I32 s))

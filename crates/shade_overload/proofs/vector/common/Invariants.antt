use Rattle.std.proofs.Common.{◌<◌}
use Rattle.shade_values.specs.declared.types.Scalar.{Scalar}
use Rattle.shade_values.specs.declared.types.Scalar.TheVariants as of_scalar
use Rattle.shade_overload.specs.Conversions.{distance}
use Rattle.shade_overload.specs.Patterns.{ArePartsOf}
use Rattle.shade_overload.proofs.vector.common.Given as goal

abbrev pub invariant-loop-scalar : goal.invariant-loop-scalar
invariant-loop-scalar l = (s : Scalar) → distance of_scalar.I32 s < l.scalar-index → ¬ ArePartsOf l.count l.types s

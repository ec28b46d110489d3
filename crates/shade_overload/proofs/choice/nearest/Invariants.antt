use Rattle.std.proofs.Common.{◌<◌}
use Rattle.shade_overload.specs.Patterns.{Suits}
use Rattle.shade_overload.specs.Conversions.{distance}
use Rattle.shade_values.specs.declared.types.Scalar.{Scalar}
use Rattle.shade_overload.proofs.choice.nearest.Given as goal

abbrev pub invariant-loop-scalar : goal.invariant-loop-scalar
invariant-loop-scalar l = (s : Scalar) → distance l.fn.first s < l.scalar-index → ¬ Suits l.pattern l.forms.0 l.forms.1 l.types s

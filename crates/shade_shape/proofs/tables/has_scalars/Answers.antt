use Rattle.shade_values.specs.declared.types.Scalar.TheVariants as scalar
use Rattle.shade_shape.proofs.TableLaws.{each_scalar}
use Rattle.shade_shape.proofs.tables.has_scalars.Goals as goal

pub returns : goal.returns
returns c = (
  λ h. each_scalar c.args.table.now (c.has_scalar.ensures.0 c.if-not-has_scalar.false) (c.has_scalar-2.ensures.0 c.if-not-has_scalar-2.false) (c.has_scalar-3.ensures.0 c.if-not-has_scalar-3.false) (c.has_scalar-4.ensures.0 h),
  λ h. c.has_scalar-4.ensures.1 (h scalar.Abstract),
)

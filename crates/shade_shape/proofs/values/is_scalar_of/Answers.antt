use Rattle.std.proofs.Common.{◌∙◌}
use Rattle.shade_shape.proofs.Tells.{refutes}
use Rattle.shade_shape.proofs.ValueLaws.{scalar_one, scalar_many}
use Rattle.shade_shape.proofs.values.is_scalar_of.Goals as goal

pub returns-in-One : goal.returns-in-One
returns-in-One c =
    let tells = scalar_one c.args.scalar c.in-One.leaf c.args.value.now c.in-One.is in
    (λ h. tells.0 (c.is_leaf_of.ensures.0 h), λ h. c.is_leaf_of.ensures.1 (tells.1 h))

pub returns-in-Many : goal.returns-in-Many
returns-in-Many c = refutes (scalar_many c.args.scalar _ c.args.value.now c.in-Many.is)

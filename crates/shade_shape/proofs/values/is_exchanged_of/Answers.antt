use Rattle.shade_shape.proofs.Tells.{refutes}
use Rattle.shade_shape.proofs.ValueLaws.{exchanged_one, exchanged_many}
use Rattle.shade_shape.proofs.values.is_exchanged_of.Goals as goal

pub returns-in-One : goal.returns-in-One
returns-in-One c = refutes (exchanged_one c.args.scalar _ c.args.value.now c.in-One.is)

pub returns-in-Many : goal.returns-in-Many
returns-in-Many c =
    let tells = exchanged_many c.args.scalar c.in-Many.parts c.args.value.now c.in-Many.is in
    let parts = rw c.as_slice.ensures at c.are_exchanged.ensures in
    (λ h. tells.0 (parts.0 h), λ h. parts.1 (tells.1 h))

use Rattle.shade_shape.proofs.TableLaws.{nested_tells}
use Rattle.shade_shape.proofs.tables.are_nested.Goals as goal

pub returns : goal.returns
returns c =
    let tells = nested_tells c.args.table.now c.count-sound.ensures.sound c.in_ok-depths.depths.items c.in_ok-depths.ensures in
    let shallow = rw c.deref.ensures.value at c.are_shallow.ensures in
    (λ h. tells.0 (shallow.0 h), λ h. shallow.1 (tells.1 h))

use Rattle.shade_shape.proofs.distinct.functions_differ.Goals as goal

pub returns : goal.returns
returns c = rw c.in_ok-names.ensures at (rw c.deref.ensures.value at c.are_distinct.ensures)

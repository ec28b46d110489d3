use Rattle.std.proofs.lemmas.Simd.{map-map}
use Rattle.shade_values.specs.declared.value.Value.TheViews.{outs-Many}
use Rattle.shade_values.specs.Parts.{own_leaf}
use Rattle.shade_values.specs.Apply.{converted_part}
use Rattle.shade_values.proofs.operations.add_leaves.Goals as goal

pub returns-in-Many : goal.returns-in-Many
returns-in-Many c = rw (c.in-Many.is, outs-Many c.in-Many.others, map-map (converted_part c.args.scalar) own_leaf c.in-Many.others, ← c.as_slice.ensures) c.add_all.ensures

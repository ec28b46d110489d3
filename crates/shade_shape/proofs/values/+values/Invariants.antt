use Rattle.std.proofs.Common.{◌≡◌, take, drop, length}
use Rattle.std.specs.Prelude.{All}
use Rattle.shade_values.specs.Shape.{member_shapes, shape_of, shapes}
use Rattle.shade_values.specs.Typed.{AreValuesOf, IsValueOf}
use Rattle.shade_shape.proofs.values.+values.Given as goal

abbrev pub invariant-are_elements-parts : goal.invariant-are_elements-parts
invariant-are_elements-parts l = All (IsValueOf (shape_of l.types l.id)) (take l.part-index l.part-items)

abbrev pub invariant-are_members-parts : goal.invariant-are_members-parts
invariant-are_members-parts l = record {
  at : l.place ≡ l.part-index;
  to : AreValuesOf (member_shapes (shapes l.types) (drop l.place l.members)) (drop l.place l.part-items) → AreValuesOf (member_shapes (shapes l.types) l.members) l.part-items;
  from : AreValuesOf (member_shapes (shapes l.types) l.members) l.part-items → AreValuesOf (member_shapes (shapes l.types) (drop l.place l.members)) (drop l.place l.part-items);
}

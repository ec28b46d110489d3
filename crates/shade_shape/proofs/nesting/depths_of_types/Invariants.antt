use Rattle.std.proofs.Common.{◌-◌, ◌≡◌, ◌≤◌, [], map, fold, take, length}
use Rattle.shade_values.specs.Shape.{with_spelling}
use Rattle.shade_shape.specs.Depths.{depth_of}
use Rattle.shade_shape.proofs.nesting.depths_of_types.Given as goal

abbrev pub invariant-types : goal.invariant-types
invariant-types l = record {
  within : l.number ≤ l.count;
  long : length l.depths.items ≡ l.number;
  are : l.depths.items ≡ map depth_of (fold (with_spelling l.table.structs) [] (take l.number l.table.types));
}

abbrev pub decreases-types : goal.decreases-types
decreases-types l = l.count - l.number

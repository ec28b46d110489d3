use Rattle.std.proofs.Common.{◌-◌, ◌≡◌, ◌≤◌, [], map, fold, take, length}
use Rattle.shade_values.specs.Shape.{with_spelling}
use Rattle.shade_shape.specs.Facts.{facts_of}
use Rattle.shade_shape.proofs.facts.facts_of_types.Given as goal

abbrev pub invariant-types : goal.invariant-types
invariant-types l = record {
  within : l.number ≤ l.count;
  long : length l.facts.items ≡ l.number;
  are : l.facts.items ≡ map facts_of (fold (with_spelling l.table.structs) [] (take l.number l.table.types));
}

abbrev pub decreases-types : goal.decreases-types
decreases-types l = l.count - l.number

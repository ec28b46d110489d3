use Rattle.std.proofs.Common.{◌≡◌, ◌-◌, ◌<◌, ◌≤◌, ℕ, Some}
use Rattle.std.specs.Prelude.{slice_get}
use Rattle.shade_shape.proofs.tables.holds.Given as goal

abbrev pub invariant-types : goal.invariant-types
invariant-types l = record {
  within : l.number ≤ l.count;
  none : (k : ℕ) → k < l.number → slice_get l.table.types k ≡ Some l.ty → ⊥;
}

abbrev pub decreases-types : goal.decreases-types
decreases-types l = l.count - l.number

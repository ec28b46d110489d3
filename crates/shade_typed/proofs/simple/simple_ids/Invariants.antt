use Rattle.std.proofs.Common.{◌-◌, ◌<◌, ◌≤◌, length}
use Rattle.std.specs.Prelude.{All}
use Rattle.shade_typed.proofs.ContextLaws.{SimpleBelow}
use Rattle.shade_typed.proofs.simple.simple_ids.Given as goal

abbrev pub invariant-types : goal.invariant-types
invariant-types l = record {
  within : l.number ≤ l.count;
  short : All (λ id. id.0 < length l.table.types) l.ids.items;
  below : SimpleBelow l.table l.ids.items l.number;
}

abbrev pub decreases-types : goal.decreases-types
decreases-types l = l.count - l.number

use Rattle.std.proofs.Common.{◌≡◌, ◌+◌, ◌*◌, ◌^◌, ◌≤◌, drop}
use Rattle.shade_core.specs.Limits.{value_bytes}
use Rattle.shade_typed.specs.Contexts.{value_types}
use Rattle.shade_whole.proofs.bodies.value_bytes.Given as goal

abbrev pub invariant-ids : goal.invariant-ids
invariant-ids l = record {
  few : l.bytes ≤ l.id-index * 2 ^ 32;
  same : l.bytes + value_bytes l.types (value_types l.types (drop l.id-index l.ids)) ≡ value_bytes l.types (value_types l.types l.ids);
}

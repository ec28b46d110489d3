use Rattle.std.proofs.Common.{◌≡◌, ◌+◌, ◌*◌, ◌^◌, ◌≤◌, drop, map}
use Rattle.std.specs.Prelude.{sum}
use Rattle.shade_core.specs.Limits.{size_at}
use Rattle.shade_shape.proofs.limits.local_bytes.Given as goal

abbrev pub invariant-locals : goal.invariant-locals
invariant-locals l = record {
  few : l.bytes ≤ l.id-index * 2 ^ 32;
  same : l.bytes + sum (map (size_at l.types) (drop l.id-index l.locals)) ≡ sum (map (size_at l.types) l.locals);
}

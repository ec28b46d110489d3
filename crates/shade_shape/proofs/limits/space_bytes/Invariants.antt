use Rattle.std.proofs.Common.{◌≡◌, ◌+◌, ◌*◌, ◌^◌, ◌≤◌, drop}
use Rattle.shade_core.specs.Limits.{space_bytes}
use Rattle.shade_shape.proofs.limits.space_bytes.Given as goal

abbrev pub invariant-roots : goal.invariant-roots
invariant-roots l = record {
  few : l.bytes ≤ l.root-index * 2 ^ 32;
  same : l.bytes + space_bytes l.types l.space (drop l.root-index l.roots) ≡ space_bytes l.types l.space l.roots;
}

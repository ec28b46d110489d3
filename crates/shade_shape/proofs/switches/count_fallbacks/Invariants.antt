use Rattle.std.proofs.Common.{◌≡◌, ◌+◌, ◌≤◌, drop, map}
use Rattle.shade_core.specs.HasShape.{fallbacks}
use Rattle.shade_core.specs.Standing.{case_of}
use Rattle.shade_shape.proofs.switches.count_fallbacks.Given as goal

abbrev pub invariant-parts : goal.invariant-parts
invariant-parts l = record {
  few : l.count ≤ l.part-index;
  same : l.count + fallbacks (map case_of (drop l.part-index l.parts)) ≡ fallbacks (map case_of l.parts);
}

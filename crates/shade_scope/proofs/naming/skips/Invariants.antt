use Rattle.std.proofs.Common.{◌≡◌, drop}
use Rattle.std.specs.List.{flat_map}
use Rattle.shade_scope.specs.Seen.{skip}
use Rattle.shade_scope.specs.Faults.{earlier, least_of}
use Rattle.shade_scope.proofs.naming.skips.Given as goal

abbrev pub invariant-loop-inner : goal.invariant-loop-inner
invariant-loop-inner l = earlier l.least (least_of (flat_map (skip l.bound) (drop l.inner-index l.loops))) ≡ least_of (flat_map (skip l.bound) l.loops)

use Rattle.std.proofs.Common.{◌≡◌, drop}
use Rattle.std.specs.Prelude.{max}
use Rattle.shade_shape.specs.Depths.{deepest}
use Rattle.shade_shape.proofs.nesting.deepest.Given as goal

abbrev pub invariant-loop-id : goal.invariant-loop-id
invariant-loop-id l = max l.depth (deepest l.known (drop l.id-index l.members)) ≡ deepest l.known l.members

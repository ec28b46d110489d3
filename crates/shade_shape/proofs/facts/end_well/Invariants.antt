use Rattle.std.proofs.Common.{◌≡◌, drop, false}
use Rattle.shade_shape.specs.Facts.{ends_by}
use Rattle.shade_shape.proofs.facts.end_well.Given as goal

abbrev pub invariant-loop-id : goal.invariant-loop-id
invariant-loop-id l = ends_by l.known l.ended (drop l.id-index l.members) ≡ ends_by l.known false l.members

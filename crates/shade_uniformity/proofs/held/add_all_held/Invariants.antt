use Rattle.std.proofs.Common.{map, take}
use Rattle.shade_uniformity.specs.HeldRows.{Adds, AnyHeld}
use Rattle.shade_uniformity.specs.Visits.{visit_of}
use Rattle.shade_uniformity.proofs.held.add_all_held.Given as goal

abbrev pub invariant-spots : goal.invariant-spots
invariant-spots l = Adds (AnyHeld l.function (map visit_of (take l.spot-index l.spots))) l.initial.rows.items l.rows.items

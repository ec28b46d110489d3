use Rattle.std.proofs.Common.{◌≡◌, ◌++◌, drop}
use Rattle.std.specs.List.{flat_map}
use Rattle.shade_uniformity.specs.declared.walk.Spot.{Spot}
use Rattle.shade_uniformity.specs.RowLists.{visit_rows}
use Rattle.shade_uniformity.specs.Visits.{visit_of}
use Rattle.shade_uniformity.proofs.rows.add_rows.Given as goal

abbrev pub invariant-spots : goal.invariant-spots
invariant-spots l =
    l.rows.items ++ flat_map (λ (s : Spot). visit_rows l.checked l.function (visit_of s)) (drop l.spot-index l.spots) ≡ l.initial.rows.items ++ flat_map (λ (s : Spot). visit_rows l.checked l.function (visit_of s)) l.spots

use Rattle.std.proofs.Common.{◌≡◌, ◌++◌, drop}
use Rattle.std.specs.List.{flat_map}
use Rattle.shade_uniformity.specs.declared.walk.Spot.{Spot}
use Rattle.shade_uniformity.specs.NodeLists.{visit_nodes}
use Rattle.shade_uniformity.specs.Visits.{visit_of}
use Rattle.shade_uniformity.proofs.nodes.add_spots.Given as goal

abbrev pub invariant-spots : goal.invariant-spots
invariant-spots l =
    l.nodes.items ++ flat_map (λ (s : Spot). visit_nodes l.checked l.function (visit_of s)) (drop l.spot-index l.spots) ≡ l.initial.nodes.items ++ flat_map (λ (s : Spot). visit_nodes l.checked l.function (visit_of s)) l.spots

use Rattle.std.proofs.Common.{◌≡◌, ◌++◌, drop}
use Rattle.shade_uniformity.specs.NodeLists.{part_nodes}
use Rattle.shade_uniformity.proofs.nodes.add_parts.Given as goal

abbrev pub invariant-parts : goal.invariant-parts
invariant-parts l = l.nodes.items ++ part_nodes (drop l.part-index l.parts) ≡ l.initial.nodes.items ++ part_nodes l.parts

use Rattle.std.proofs.Common.{take}
use Rattle.shade_uniformity.specs.Joined.{AreJoined}
use Rattle.shade_uniformity.proofs.edges.all_joined.Given as goal

abbrev pub invariant-rows : goal.invariant-rows
invariant-rows l = AreJoined l.nodes (take l.row-index l.rows) l.edges.items

use borrow.Author.Rules.{rules}
use Rattle.shade_uniformity.proofs.CountLaws.{spots_few}
use Rattle.shade_uniformity.proofs.NodeListLaws.{nodes_same}
use Rattle.shade_uniformity.proofs.nodes.nodes_of.Goals as goal

pub add_spots-requires : goal.add_spots-requires
add_spots-requires c = spots_few c.args.function.now.body c.args.spots.now c.requires.analysed c.requires.arguments

pub returns-clause-same : goal.returns-clause-same
returns-clause-same c = nodes_same c.args.checked.now c.args.function.now c.args.spots.now c.add_spots.new.nodes.items _ c.in_order.ensures.same c.requires.analysed (search rules)

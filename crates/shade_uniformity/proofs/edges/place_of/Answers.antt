use Rattle.shade_graph.proofs.OrderLaws.{not_found}
use Rattle.shade_uniformity.proofs.edges.place_of.Goals as goal

pub returns-clause-none : goal.returns-clause-none
returns-clause-none c = not_found _ _ _ _ c.requires c.binary_search.ensures.position c.ok.ensures.value

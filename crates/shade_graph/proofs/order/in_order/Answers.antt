use Rattle.std.proofs.lemmas.List.Filters.{dedup_is}
use Rattle.shade_graph.proofs.NodeLaws.{node_eq}
use Rattle.shade_graph.proofs.OrderLaws.{ascending_from, kept, had}
use Rattle.shade_graph.proofs.order.in_order.Goals as goal

pub returns-clause-same : goal.returns-clause-same
returns-clause-same c u = (
  had _ _ _ c.sort_unstable.ensures.permutation (dedup_is node_eq _ _ c.dedup.ensures.filtered) u,
  kept _ _ _ c.sort_unstable.ensures.permutation (dedup_is node_eq _ _ c.dedup.ensures.filtered) u,
)

pub returns-clause-ascending : goal.returns-clause-ascending
returns-clause-ascending c = ascending_from _ _ c.sort_unstable.ensures.sorted (dedup_is node_eq _ _ c.dedup.ensures.filtered)

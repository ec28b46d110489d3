use Rattle.std.proofs.Common.{◌∙◌}
use Rattle.shade_reach.proofs.Edges.{same_joined}
use Rattle.shade_scope.proofs.CycleLaws.{finish}
use Rattle.shade_scope.proofs.cycles.least_cycle.Goals as goal

pub node_count-nodes-requires : goal.node_count-nodes-requires
node_count-nodes-requires c = rw c.deref.ensures.value c.requires

pub new-requires : goal.new-requires
new-requires c = rw c.deref.ensures.value at c.node_count-nodes.ensures

pub with_ranks-requires-clause-joins : goal.with_ranks-requires-clause-joins
with_ranks-requires-clause-joins c =
    same_joined c.node_count-nodes.result c.args.links.items _ c.in_ok-graph.ensures.edges (rw c.deref.ensures.value at c.node_count-nodes.ensures)

pub returns : goal.returns
returns c = finish _ c.args.links.items _ _ _ _ c.in_ok-ranked.ensures.graph c.in_ok-graph.ensures.edges (c.as_slice.ensures ∙ c.in_ok-heads.ensures) c.least_of_heads.ensures

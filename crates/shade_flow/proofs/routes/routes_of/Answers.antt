use Rattle.std.proofs.Common.{ap, ◌∙◌}
use Rattle.shade_core.specs.Code.{code_of}
use Rattle.shade_flow.specs.Counted.{point_counted}
use Rattle.shade_flow.specs.Tables.{number}
use Rattle.shade_flow.proofs.EdgeLaws.{are_routes}
use Rattle.shade_flow.proofs.CountedLaws.{entry_small, has_room, ways_counted, below_numbers}
use Rattle.shade_flow.proofs.routes.routes_of.Goals as goal

pub node_of-first-requires : goal.node_of-first-requires
node_of-first-requires c = ap point_counted c.function_entry.ensures ∙ entry_small (code_of c.args.function.now.body) c.requires

pub numbered-requires : goal.numbered-requires
numbered-requires c = ways_counted (code_of c.args.function.now.body) _ (c.deref.ensures.value ∙ c.in_ok-steps.ensures) c.requires

pub node_count-nodes-requires-clause-first : goal.node_count-nodes-requires-clause-first
node_count-nodes-requires-clause-first c = has_room _ _ c.node_of-first.ensures (ap point_counted c.function_entry.ensures ∙ entry_small (code_of c.args.function.now.body) c.requires)

pub node_count-nodes-requires-clause-edges : goal.node_count-nodes-requires-clause-edges
node_count-nodes-requires-clause-edges c =
    below_numbers c.deref.result.now _ (c.deref-2.ensures.value ∙ c.in_ok-edges.ensures) (ways_counted (code_of c.args.function.now.body) _ (c.deref.ensures.value ∙ c.in_ok-steps.ensures) c.requires)

pub returns : goal.returns
returns c =
    let edges = rw c.deref.ensures.value at c.in_ok-edges.ensures in
    let joins = rw c.deref-2.ensures.value at c.node_count-nodes.ensures.edges in
    let first = c.node_of-first.ensures ∙ ap number c.function_entry.ensures in
    are_routes _ _ _ _ c.in_ok-steps.ensures edges c.in_ok-graph.ensures.nodes c.in_ok-graph.ensures.edges joins first c.node_count-nodes.ensures.first c.in_ok-writes.ensures

use Rattle.std.proofs.Common.{◌≡◌, ℕ, ◌<◌, arith, ap, length, vec_len, List, ◌++◌, map, refl, sym, subst, ◌∙◌}
use Rattle.shade_reach.specs.Digraph.{JoinsNodes}
use Rattle.shade_graph.specs.declared.node.Node.{Node}
use Rattle.shade_graph.specs.declared.gather.GivenEdge.{GivenEdge}
use Rattle.shade_graph.specs.Order.{IsAscending}
use Rattle.shade_graph.specs.Numbered.{IsNumbered, all_nodes, entry_pairs, ends}
use Rattle.shade_graph.proofs.GraphLaws.{graph_is, edges_within}
use Rattle.shade_graph.proofs.LimitLaws.{few_enough}
use Rattle.shade_graph.proofs.graph.graph_by.Goals as goal

pub numbered_edges-requires-clause-ascending : goal.numbered_edges-requires-clause-ascending
numbered_edges-requires-clause-ascending c = subst (λ (ns : List Node). IsAscending ns) (sym c.deref.ensures.value) c.requires.ascending

pub numbered_edges-requires-clause-count : goal.numbered_edges-requires-clause-count
numbered_edges-requires-clause-count c = omega (arith, c.requires.few, ap length c.deref.ensures.value)

pub numbered_edges-requires-clause-params : goal.numbered_edges-requires-clause-params
numbered_edges-requires-clause-params c = omega (arith, c.requires.params)

pub new-requires : goal.new-requires
new-requires c = subst (λ (n : ℕ). JoinsNodes n c.in_ok-edges.edges.items) (c.deref.ensures.len ∙ sym c.len.ensures) (edges_within _ _ _ c.in_ok-edges.ensures)

pub invariant_of-result : goal.invariant_of-result
invariant_of-result c =
    let count : vec_len c.args.gathered.nodes ≡ length c.args.gathered.nodes.items = sym c.deref.ensures.len ∙ ap length c.deref.ensures.value in
    let short : length c.args.gathered.nodes.items < 4294967296 = omega (arith, c.requires.few) in (
      c.in_ok-graph.ensures.nodes ∙ (c.len.ensures ∙ count),
      short,
      c.requires.ascending,
      λ from to e. subst (λ (ns : List Node). JoinsNodes (length ns) c.in_ok-edges.edges.items) c.deref.ensures.value (edges_within _ _ _ c.in_ok-edges.ensures) from to ((c.in_ok-graph.ensures.edges from to).1 e),
    )

pub returns-clause-graph : goal.returns-clause-graph
returns-clause-graph c =
    graph_is _ (all_nodes c.args.function.now) c.args.gathered.nodes.items c.args.gathered.edges.items c.in_ok-edges.edges.items c.in_ok-graph.graph.edges c.requires.ascending c.requires.same
    refl c.requires.edges
    (subst (λ (ns : List Node). IsNumbered ns (entry_pairs c.args.function.now ++ map ends c.args.gathered.edges.items) c.in_ok-edges.edges.items) c.deref.ensures.value
    (subst (λ (es : List GivenEdge). IsNumbered c.deref.result.now (entry_pairs c.args.function.now ++ map ends es) c.in_ok-edges.edges.items) c.deref-2.ensures.value c.in_ok-edges.ensures))
    c.in_ok-graph.ensures.edges

pub returns-clause-few : goal.returns-clause-few
returns-clause-few c = few_enough c.args.function.now c.args.gathered.nodes.items c.requires.same c.requires.few

use Rattle.std.proofs.Common.{◌≡◌, ◌++◌, drop}
use Rattle.shade_graph.specs.Numbered.{param_nodes}
use Rattle.shade_graph.proofs.graph.add_params.Given as goal

abbrev pub invariant-params : goal.invariant-params
invariant-params l = record {
  out : l.nodes.items ++ param_nodes l.number (drop l.param-index l.params) ≡ l.initial.nodes.items ++ param_nodes 0 l.params;
  count : l.number ≡ l.param-index;
}

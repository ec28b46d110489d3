use Rattle.std.proofs.Common.{◌≡◌, ◌++◌, drop}
use Rattle.shade_uniformity.specs.NodeLists.{contents_nodes}
use Rattle.shade_uniformity.proofs.nodes.add_contents.Given as goal

abbrev pub invariant-params : goal.invariant-params
invariant-params l = record {
  out : l.nodes.items ++ contents_nodes l.number (drop l.param-index l.params) ≡ l.initial.nodes.items ++ contents_nodes 0 l.params;
  count : l.number ≡ l.param-index;
}

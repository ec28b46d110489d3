use Rattle.std.proofs.Common.{◌≡◌, ◌++◌, drop}
use Rattle.shade_uniformity.specs.NodeLists.{arguments_nodes}
use Rattle.shade_uniformity.proofs.nodes.add_arguments.Given as goal

abbrev pub invariant-arguments : goal.invariant-arguments
invariant-arguments l = record {
  out : l.nodes.items ++ arguments_nodes l.function l.number l.which (drop l.argument-index l.argument-items) ≡ l.initial.nodes.items ++ arguments_nodes l.function l.number 0 l.argument-items;
  count : l.which ≡ l.argument-index;
}

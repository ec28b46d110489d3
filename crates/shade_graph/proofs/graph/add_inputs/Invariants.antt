use Rattle.std.proofs.Common.{◌≡◌, ◌++◌, drop}
use Rattle.shade_graph.specs.Numbered.{param_pairs}
use Rattle.shade_graph.proofs.graph.add_inputs.Given as goal

abbrev pub invariant-params : goal.invariant-params
invariant-params l = record {
  out : l.pairs.items ++ param_pairs l.number (drop l.param-index l.params) ≡ l.initial.pairs.items ++ param_pairs 0 l.params;
  count : l.number ≡ l.param-index;
}

use Rattle.std.proofs.Common.{ap, ◌+◌}
use Rattle.shade_graph.proofs.Turns.{inputs_turn}
use Rattle.shade_graph.proofs.graph.add_inputs.Goals as goal

pub params-preserved : goal.params-preserved
params-preserved c = record {
  out = inputs_turn c.params.number c.args.params.now c.params.param-index _ c.params.pairs.items c.add_input.new.pairs.items _ c.params-test.true c.in_ok-add_input.ensures c.params.invariant.out;
  count = ap (λ n. n + 1) c.params.invariant.count;
}

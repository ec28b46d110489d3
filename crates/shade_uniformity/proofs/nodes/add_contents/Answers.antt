use Rattle.std.proofs.Common.{ap, ◌+◌}
use Rattle.shade_uniformity.proofs.NodeTurns.{contents_turn}
use Rattle.shade_uniformity.proofs.nodes.add_contents.Goals as goal

pub params-preserved : goal.params-preserved
params-preserved c = record {
  out = contents_turn c.params.number c.args.params.now c.params.param-index _ c.params.nodes.items c.add_content.new.nodes.items _ c.params-test.true c.in_ok-add_content.ensures c.params.invariant.out;
  count = ap (λ n. n + 1) c.params.invariant.count;
}

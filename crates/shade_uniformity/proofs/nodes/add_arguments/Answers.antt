use Rattle.std.proofs.Common.{ap, ◌+◌}
use Rattle.shade_uniformity.proofs.NodeTurns.{arguments_turn}
use Rattle.shade_uniformity.proofs.nodes.add_arguments.Goals as goal

pub arguments-preserved : goal.arguments-preserved
arguments-preserved c = record {
  out = arguments_turn c.args.function.now c.args.number c.arguments.which c.as_slice-argument-items.result.now c.arguments.argument-index c.argument-item.result c.arguments.nodes.items c.add_argument.new.nodes.items _
      c.arguments-test.true c.argument-item.is c.in_ok-add_argument.ensures c.arguments.invariant.out;
  count = ap (λ n. n + 1) c.arguments.invariant.count;
}

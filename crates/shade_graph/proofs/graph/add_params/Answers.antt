use Rattle.std.proofs.Common.{ap, ◌+◌}
use Rattle.shade_graph.proofs.ParamLaws.{param_more}
use Rattle.shade_graph.proofs.graph.add_params.Goals as goal

pub params-preserved : goal.params-preserved
params-preserved c = record {
  out = param_more _ _ _ _ _ _ c.params-test.true c.in_ok-push.ensures.items c.params.invariant.out;
  count = ap (λ n. n + 1) c.params.invariant.count;
}

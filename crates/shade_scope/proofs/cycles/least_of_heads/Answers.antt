use Rattle.std.proofs.Common.{arith}
use Rattle.shade_scope.proofs.CycleLaws.{ended, turn}
use Rattle.shade_scope.proofs.cycles.least_of_heads.Goals as goal

pub loop-head-preserved : goal.loop-head-preserved
loop-head-preserved c = turn c.args.ranked.now.graph.edges c.args.heads.now _ _ _ _ c.loop-head-test.true c.in_ok-least.ensures c.loop-head.invariant

pub returns : goal.returns
returns c = ended c.args.ranked.now.graph.edges c.args.heads.now _ _ (omega arith) c.loop-head.invariant

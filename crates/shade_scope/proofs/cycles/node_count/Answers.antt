use Rattle.std.proofs.Common.{arith}
use Rattle.shade_scope.proofs.CycleLaws.{count_turn, joins_at}
use Rattle.shade_scope.proofs.cycles.node_count.Goals as goal

pub loop-link-preserved : goal.loop-link-preserved
loop-link-preserved c = count_turn _ _ c.args.links.now _ _ c.loop-link-test.true c.above_both-nodes.ensures.low c.above_both-nodes.ensures.from c.above_both-nodes.ensures.to c.loop-link.invariant

pub returns : goal.returns
returns c = joins_at _ c.args.links.now _ (omega arith) c.loop-link.invariant

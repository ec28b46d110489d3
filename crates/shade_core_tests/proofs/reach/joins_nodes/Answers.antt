use Rattle.std.proofs.Common.{arith}
use Rattle.shade_reach.proofs.Edges.{joined_all}
use Rattle.shade_core_tests.proofs.reach.joins_nodes.Goals as goal

pub returns : goal.returns
returns c t = joined_all _ _ (λ k h. c.loop-edge.invariant k (omega (arith, h)))

use Rattle.std.proofs.Common.{arith}
use Rattle.shade_flow.proofs.BitLaws.{edges_more}
use Rattle.shade_flow.proofs.numbers.node_count.Goals as goal

pub loop-edge-preserved : goal.loop-edge-preserved
loop-edge-preserved c = record {
  first = omega (arith, c.loop-edge.invariant.first, c.above-count-in-loop-edge.ensures.count, c.above-count-in-loop-edge-2.ensures.count);
  edges = edges_more _ _ _ _ _ _ c.loop-edge.invariant.edges c.loop-edge-test.true c.above-count-in-loop-edge.ensures.count c.above-count-in-loop-edge.ensures.number c.above-count-in-loop-edge-2.ensures.count c.above-count-in-loop-edge-2.ensures.number;
}

pub returns-clause-edges : goal.returns-clause-edges
returns-clause-edges c = λ k d lt. c.loop-edge.invariant.edges k d (omega (arith, lt, c.loop-edge-test.false))

use Rattle.shade_graph.proofs.Turns.{ends_turn}
use Rattle.shade_graph.proofs.graph.add_ends.Goals as goal

pub given-preserved : goal.given-preserved
given-preserved c = ends_turn c.args.given.now c.given.edge-index _ c.given.pairs.items c.push.new.self.items _ c.given-test.true c.in_ok-push.ensures.items c.given.invariant

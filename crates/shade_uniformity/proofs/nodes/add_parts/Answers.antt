use Rattle.shade_uniformity.proofs.NodeTurns.{parts_turn}
use Rattle.shade_uniformity.proofs.nodes.add_parts.Goals as goal

pub parts-preserved : goal.parts-preserved
parts-preserved c = parts_turn c.args.parts.now c.parts.part-index _ c.parts.nodes.items _ _ c.parts-test.true c.in_ok-push.ensures.items c.parts.invariant

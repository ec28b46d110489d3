use Rattle.shade_flow.proofs.WalkLaws.{begin_step}
use Rattle.shade_flow.proofs.steps.add_begins.Goals as goal

pub parts-preserved : goal.parts-preserved
parts-preserved c = begin_step c.args.parts.now c.parts.part-index _ _ _ _ c.args.number c.args.after _ c.parts-test.true c.part-item.is c.in_ok-add_step.ensures c.entry_of-first.ensures c.parts.invariant

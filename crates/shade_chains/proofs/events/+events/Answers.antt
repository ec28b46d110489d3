use Rattle.shade_chains.proofs.EventLaws.{statement_step, part_step}
use Rattle.shade_chains.proofs.events.+events.Goals as goal

pub add_of_list-statements-preserved : goal.add_of_list-statements-preserved
add_of_list-statements-preserved t c =
    statement_step c.args.loops c.as_slice-statement-items.result.now c.statements.statement-index _ _ _ _ c.statements-test.true c.statement-item.is c.in_ok-add_of_act.ensures c.statements.invariant

pub add_of_parts-parts-preserved : goal.add_of_parts-parts-preserved
add_of_parts-parts-preserved t c =
    part_step c.args.loops c.as_slice-part-items.result.now c.parts.part-index _ _ _ _ c.parts-test.true c.part-item.is c.in_ok-add_of_list.ensures c.parts.invariant

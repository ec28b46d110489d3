use Rattle.shade_core.proofs.CodeLaws.{turn_step, part_step}
use Rattle.shade_core.proofs.behaviour.+behaviour.Goals as goal

pub list_behaviour-statements-preserved : goal.list_behaviour-statements-preserved
list_behaviour-statements-preserved t c =
    turn_step c.as_slice-statement-items.result.now c.statements.statement-index _ c.statements.so_far c.then-so_far.result c.act_behaviour.result _ c.statements-test.true c.statement-item.is c.then-so_far.ensures c.act_behaviour.ensures c.statements.invariant

pub parts_behaviour-parts-preserved : goal.parts_behaviour-parts-preserved
parts_behaviour-parts-preserved t c =
    part_step c.as_slice-part-items.result.now c.parts.part-index _ c.parts.so_far c.joined-so_far.result c.list_behaviour.result _ c.parts-test.true c.part-item.is c.joined-so_far.ensures c.list_behaviour.ensures c.parts.invariant

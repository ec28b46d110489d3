use Rattle.shade_shape.proofs.EndLaws.{end_step}
use Rattle.shade_shape.proofs.bodies.ends_with_return.Goals as goal

pub statements-preserved : goal.statements-preserved
statements-preserved c =
    end_step c.as_slice-statement-items.result.now c.statements.statement-index _ c.statements.ends _ _ c.statements-test.true c.statement-item.is c.is_return-ends.ensures c.statements.invariant

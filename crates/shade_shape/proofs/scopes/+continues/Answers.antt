use Rattle.std.proofs.Common.{sym, ap, ◌∙◌}
use Rattle.shade_core.specs.Code.{code_of}
use Rattle.shade_core.specs.Scopes.{continues}
use Rattle.shade_shape.proofs.ScopeLaws.{continues_here, continues_next, part_continues_next}
use Rattle.shade_shape.proofs.scopes.+continues.Goals as goal

pub list_continues-returns-then-act_continues : goal.list_continues-returns-then-act_continues
list_continues-returns-then-act_continues t c =
    continues_here c.as_slice-statement-items.result.now c.statements.statement-index _ _ c.statements-test.true c.statement-item.is (sym c.act_continues.ensures ∙ c.if-act_continues.true) c.statements.invariant ∙ ap (λ xs. continues (code_of xs)) c.as_slice-statement-items.ensures

pub list_continues-statements-preserved : goal.list_continues-statements-preserved
list_continues-statements-preserved t c =
    continues_next c.as_slice-statement-items.result.now c.statements.statement-index _ _ c.statements-test.true c.statement-item.is (sym c.act_continues.ensures ∙ c.if-act_continues.false) c.statements.invariant

pub parts_continue-parts-preserved : goal.parts_continue-parts-preserved
parts_continue-parts-preserved t c =
    part_continues_next c.as_slice-part-items.result.now c.parts.part-index _ _ c.parts-test.true c.part-item.is (sym c.list_continues.ensures ∙ c.if-list_continues.false) c.parts.invariant

use Rattle.std.proofs.Common.{sym, ap, ◌∙◌}
use Rattle.shade_core.specs.Code.{code_of}
use Rattle.shade_flow.specs.Counted.{are_counted}
use Rattle.shade_flow.proofs.CountedLaws.{counted_next, counted_never, part_next}
use Rattle.shade_flow.proofs.counted.+counted.Goals as goal

pub list_is_counted-returns-then-not-statement_is_counted : goal.list_is_counted-returns-then-not-statement_is_counted
list_is_counted-returns-then-not-statement_is_counted t c =
    counted_never c.as_slice-statement-items.result.now c.statements.statement-index c.statement-item.result _ c.statements-test.true c.statement-item.is (sym c.statement_is_counted.ensures ∙ c.if-not-statement_is_counted.true) c.statements.invariant
    ∙ ap (λ xs. are_counted (code_of xs)) c.as_slice-statement-items.ensures

pub list_is_counted-statements-preserved : goal.list_is_counted-statements-preserved
list_is_counted-statements-preserved t c =
    counted_next c.as_slice-statement-items.result.now c.statements.statement-index c.statement-item.result _ c.statements-test.true c.statement-item.is (sym c.statement_is_counted.ensures ∙ c.if-not-statement_is_counted.false) c.statements.invariant

pub parts_are_counted-parts-preserved : goal.parts_are_counted-parts-preserved
parts_are_counted-parts-preserved t c =
    part_next c.as_slice-part-items.result.now c.parts.part-index c.part-item.result _ c.parts-test.true c.part-item.is (sym c.list_is_counted.ensures ∙ c.if-not-list_is_counted.false) c.parts.invariant

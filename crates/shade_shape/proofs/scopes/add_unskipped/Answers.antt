use Rattle.std.proofs.Common.{◌++◌, sym, ap, ◌∙◌}
use Rattle.shade_core.specs.Code.{code_of}
use Rattle.shade_core.specs.Scopes.{unskipped}
use Rattle.shade_shape.proofs.ScopeLaws.{unskipped_stop, unskipped_more}
use Rattle.shade_shape.proofs.scopes.add_unskipped.Goals as goal

pub returns-then-skips : goal.returns-then-skips
returns-then-skips c =
    unskipped_stop c.as_slice-statement-items.result.now c.statements.statement-index _ c.statements.seen _ _ c.statements-test.true c.statement-item.is c.in_ok-push.ensures (sym c.act_continues-skips.ensures ∙ c.if-skips.true) c.statements.invariant
    ∙ ap (λ xs. c.args.seen.now ++ unskipped (code_of xs)) c.as_slice-statement-items.ensures

pub statements-preserved : goal.statements-preserved
statements-preserved c =
    unskipped_more c.as_slice-statement-items.result.now c.statements.statement-index _ c.statements.seen _ _ c.statements-test.true c.statement-item.is c.in_ok-push.ensures (sym c.act_continues-skips.ensures ∙ c.if-skips.false) c.statements.invariant

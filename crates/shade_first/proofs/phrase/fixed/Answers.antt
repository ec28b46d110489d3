use Rattle.std.proofs.Common.{map}
use Rattle.shade_first.specs.Form.{Sequence, Placed}
use Rattle.shade_first.specs.Steps.{kind_of}
use Rattle.shade_first.proofs.Errors.{errs, faults}
use Rattle.shade_first.proofs.Tokens.{step_fails, step_more, steps_end}
use Rattle.shade_first.proofs.phrase.fixed.Goals as goal

pub returns-in_err-next : goal.returns-in_err-next
returns-in_err-next c = errs _ c.in_err-next.field-0.0 _ _ c.from_residual.ensures.1 (faults (Sequence (map kind_of c.args.steps.now)) (Placed _) c.args.tokens.now c.args.from c.steps.at c.in_err-next.field-0.0 (λ to f. step_fails c.args.steps.now c.args.tokens.now c.args.from c.steps.at c.steps.step-index _ c.steps-test.true c.steps.invariant to f) c.in_err-next.ensures)

pub steps-preserved : goal.steps-preserved
steps-preserved c = step_more c.args.steps.now c.args.tokens.now c.args.from c.steps.at c.steps.step-index _ c.steps-test.true c.steps.invariant c.in_ok-next.field-0-0 c.in_ok-next.next c.in_ok-next.ensures

pub returns : goal.returns
returns c = steps_end c.args.steps.now c.args.tokens.now c.args.from c.steps.at c.steps.step-index c.steps-test.false c.steps.invariant

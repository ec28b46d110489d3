use Rattle.std.proofs.Common.{◌+◌, arith}
use Rattle.shade_first.specs.declared.token.Mark.TheVariants.{Less}
use Rattle.shade_first.specs.declared.token.Kind.TheVariants as kind
use Rattle.shade_first.specs.Form.{Placed, Sequence, Limit, barrier_end, condition_begin, condition_end, Item, Body}
use Rattle.shade_first.proofs.Errors.{errs, faults}
use Rattle.shade_first.proofs.Blocks.{block_close, item_fails, item_more, barrier_fails, barrier_reads, deep_fails, if_fails, name_fails, less_fails, limit_fails, end_fails, body_fails, branch_reads}
use Rattle.shade_first.proofs.parse.+blocks.Goals as goal

pub block-returns-in-Some : goal.block-returns-in-Some
block-returns-in-Some t c = block_close c.args.parameter.now c.args.braces c.args.tokens.now c.args.from c.items.at c.items.items c.items.invariant c.in-Some.end c.in-Some.ensures.value

pub block-returns-in_err-item : goal.block-returns-in_err-item
block-returns-in_err-item t c = errs _ c.in_err-item.field-0.0 _ _ c.from_residual.ensures.1 (faults (Body c.args.parameter.now c.args.braces) (Item c.args.parameter.now c.args.braces) c.args.tokens.now c.args.from c.items.at c.in_err-item.field-0.0 (λ to f. item_fails c.args.parameter.now c.args.braces c.args.tokens.now c.args.from c.items.at c.items.items c.items.invariant c.in_default.ensures.value to f) c.in_err-item.ensures.read)

pub block-items-preserved : goal.block-items-preserved
block-items-preserved t c = item_more c.args.parameter.now c.args.braces c.args.tokens.now c.args.from c.items.at c.items.items c.items.invariant c.in_default.ensures.value _ _ _ c.in_ok-push.ensures c.in_ok-item.ensures.read

pub item-returns-in_err-end-clause-read : goal.item-returns-in_err-end-clause-read
item-returns-in_err-end-clause-read t c = errs _ c.in_err-end.field-0.0 _ _ c.from_residual.ensures.1 (faults (Item c.args.parameter.now c.args.braces) (Sequence barrier_end) c.args.tokens.now c.args.from (c.args.from + 1) c.in_err-end.field-0.0 (λ to f. barrier_fails c.args.parameter.now c.args.braces c.args.tokens.now c.args.from c.requires.within c.in-Some.place c.in-Some.ensures.value to f) c.in_err-end.ensures)

pub item-returns-in-Some-clause-read : goal.item-returns-in-Some-clause-read
item-returns-in-Some-clause-read t c = barrier_reads c.args.parameter.now c.args.braces c.args.tokens.now c.args.from c.requires.within c.in-Some.place c.in-Some.ensures.value c.in_ok-end.end c.in_ok-end.ensures

pub item-returns-then-braces-eq-MOST_BRACES-clause-read : goal.item-returns-then-braces-eq-MOST_BRACES-clause-read
item-returns-then-braces-eq-MOST_BRACES-clause-read t c = deep_fails c.args.parameter.now c.args.braces c.args.tokens.now c.args.from c.requires.within c.in_default.ensures.value (omega arith)

pub item-returns-in_default-step_at-clause-read : goal.item-returns-in_default-step_at-clause-read
item-returns-in_default-step_at-clause-read t c = if_fails c.args.parameter.now c.args.braces c.args.tokens.now c.args.from c.requires.within c.in_default.ensures.value (omega arith) c.in_default-step_at.ensures.value

pub item-returns-in_err-at-clause-read : goal.item-returns-in_err-at-clause-read
item-returns-in_err-at-clause-read t c = errs _ c.in_err-at.field-0.0 _ _ c.from_residual-in_err-at.ensures.1 (faults (Item c.args.parameter.now c.args.braces) (Sequence (condition_begin c.args.parameter.now)) c.args.tokens.now c.args.from (c.args.from + 1) c.in_err-at.field-0.0 (λ to f. name_fails c.args.parameter.now c.args.braces c.args.tokens.now c.args.from c.requires.within c.in_default.ensures.value (omega arith) c.in-Some-step_at.place c.in-Some-step_at.ensures.value to f) c.in_err-at.ensures)

pub item-returns-in_err-operator-clause-read : goal.item-returns-in_err-operator-clause-read
item-returns-in_err-operator-clause-read t c = errs _ c.in_err-operator.field-0.0 _ _ c.from_residual-in_err-operator.ensures.1 (faults (Item c.args.parameter.now c.args.braces) (Placed (kind.Mark Less)) c.args.tokens.now c.args.from c.in_ok-at.at c.in_err-operator.field-0.0 (λ to f. less_fails c.args.parameter.now c.args.braces c.args.tokens.now c.args.from c.requires.within c.in_default.ensures.value (omega arith) c.in-Some-step_at.place c.in-Some-step_at.ensures.value c.in_ok-at.at c.in_ok-at.ensures to f) c.in_err-operator.ensures)

pub item-returns-in_err-limit-clause-read : goal.item-returns-in_err-limit-clause-read
item-returns-in_err-limit-clause-read t c = errs _ c.in_err-limit.field-0.0 _ _ c.from_residual-in_err-limit.ensures.1 (faults (Item c.args.parameter.now c.args.braces) Limit c.args.tokens.now c.args.from c.in_ok-operator.at c.in_err-limit.field-0.0 (λ to f. limit_fails c.args.parameter.now c.args.braces c.args.tokens.now c.args.from c.requires.within c.in_default.ensures.value (omega arith) c.in-Some-step_at.place c.in-Some-step_at.ensures.value c.in_ok-at.at c.in_ok-at.ensures c.in_ok-operator.operator c.in_ok-operator.at c.in_ok-operator.ensures to f) c.in_err-limit.ensures)

pub item-returns-in_err-at-2-clause-read : goal.item-returns-in_err-at-2-clause-read
item-returns-in_err-at-2-clause-read t c = errs _ c.in_err-at-2.field-0.0 _ _ c.from_residual-in_err-at-2.ensures.1 (faults (Item c.args.parameter.now c.args.braces) (Sequence condition_end) c.args.tokens.now c.args.from c.in_ok-limit.at c.in_err-at-2.field-0.0 (λ to f. end_fails c.args.parameter.now c.args.braces c.args.tokens.now c.args.from c.requires.within c.in_default.ensures.value (omega arith) c.in-Some-step_at.place c.in-Some-step_at.ensures.value c.in_ok-at.at c.in_ok-at.ensures c.in_ok-operator.operator c.in_ok-operator.at c.in_ok-operator.ensures c.in_ok-limit.limit c.in_ok-limit.at c.in_ok-limit.ensures to f) c.in_err-at-2.ensures)

pub item-returns-in_err-items-clause-read : goal.item-returns-in_err-items-clause-read
item-returns-in_err-items-clause-read t c = errs _ c.in_err-items.field-0.0 _ _ c.from_residual-in_err-items.ensures.1 (faults (Item c.args.parameter.now c.args.braces) (Body c.args.parameter.now (c.args.braces + 1)) c.args.tokens.now c.args.from c.in_ok-at-2.at c.in_err-items.field-0.0 (λ to f. body_fails c.args.parameter.now c.args.braces c.args.tokens.now c.args.from c.requires.within c.in_default.ensures.value (omega arith) c.in-Some-step_at.place c.in-Some-step_at.ensures.value c.in_ok-at.at c.in_ok-at.ensures c.in_ok-operator.operator c.in_ok-operator.at c.in_ok-operator.ensures c.in_ok-limit.limit c.in_ok-limit.at c.in_ok-limit.ensures c.in_ok-at-2.at c.in_ok-at-2.ensures to f) c.in_err-items.ensures)

pub item-returns-clause-read : goal.item-returns-clause-read
item-returns-clause-read t c = branch_reads c.args.parameter.now c.args.braces c.args.tokens.now c.args.from c.requires.within c.in_default.ensures.value (omega arith) c.in-Some-step_at.place c.in-Some-step_at.ensures.value c.in_ok-at.at c.in_ok-at.ensures c.in_ok-operator.operator c.in_ok-operator.at c.in_ok-operator.ensures c.in_ok-limit.limit c.in_ok-limit.at c.in_ok-limit.ensures c.in_ok-at-2.at c.in_ok-at-2.ensures c.in_ok-items.items _ c.in_ok-items.end c.in_ok-items.ensures

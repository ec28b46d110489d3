use Rattle.std.proofs.Common.{refl, sym, ap, ◌∙◌, arith, Some, None}
use Rattle.shade_core.specs.Standing.{by_itself, head_of}
use Rattle.shade_typed.specs.Contexts.{type_in}
use Rattle.shade_typed.proofs.ValueLaws.{as_many, as_old, fit_all, fit_first, fit_more, fit_none, item_at, many_all, standings}
use Rattle.shade_typed.proofs.values.keep_all.Goals as goal

pub statements-init : goal.statements-init
statements-init c = record { fit = fit_first c.args.context.now (standings c.args.listed.now); same = record { shader = refl; function = refl } }

pub returns-in_default-clause-fit : goal.returns-in_default-clause-fit
returns-in_default-clause-fit c =
    let listed = c.args.listed.now in
    let i = c.statements.statement-index in
    let s = c.statement-item.result.now in
    let none = as_old c.args.context.now c.statements.context (head_of s.act) None c.statements.invariant.same (rw c.in_default.is at c.in_ok-value.ensures.fit) in
    fit_none c.args.context.now c.statements.context (standings listed) i (by_itself s) (as_many listed i c.statements-test.true) (sym (item_at listed i c.statement-item.result (by_itself s) c.statements-test.true c.statement-item.is)) none c.statements.invariant.fit

pub returns-in_default-clause-same : goal.returns-in_default-clause-same
returns-in_default-clause-same c = c.statements.invariant.same

pub statements-preserved : goal.statements-preserved
statements-preserved c =
    let listed = c.args.listed.now in
    let i = c.statements.statement-index in
    let s = c.statement-item.result.now in
    let same = c.statements.invariant.same in
    let kept = c.in_ok-keep.ensures.ok in
    let one = as_old c.args.context.now c.statements.context (head_of s.act) (Some (type_in c.in-Some.value)) same (rw c.in-Some.is at c.in_ok-value.ensures.fit) in
    record {
      fit = fit_more c.args.context.now c.statements.context c.keep.new.self (standings listed) i (by_itself s) (type_in c.in-Some.value) (as_many listed i c.statements-test.true) (sym (item_at listed i c.statement-item.result (by_itself s) c.statements-test.true c.statement-item.is)) (ap (λ n. n.values) kept) one c.statements.invariant.fit;
      same = record { shader = ap (λ n. n.shader) kept ∙ same.shader; function = ap (λ n. n.function) kept ∙ same.function };
    }

pub returns : goal.returns
returns c = record {
  fit = fit_all c.args.context.now c.statements.context (standings c.args.listed.now) c.statements.statement-index (many_all c.args.listed.now c.statements.statement-index (omega (arith, c.statements-test.false))) c.statements.invariant.fit;
  same = c.statements.invariant.same;
}

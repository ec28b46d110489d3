use Rattle.std.proofs.Common.{ap, ◌∙◌}
use Rattle.shade_core.specs.Code.{code_of}
use Rattle.shade_core.specs.Standing.{statements}
use Rattle.shade_typed.proofs.ValueLaws.{all_types, no_leave, no_types, standings}
use Rattle.shade_typed.proofs.values.types_of_values.Goals as goal

pub returns-then-not-branch-clause-typed : goal.returns-then-not-branch-clause-typed
returns-then-not-branch-clause-typed c =
    let lists = ap standings c.deref.ensures.value ∙ c.in_ok-listed.ensures in
    no_types c.args.module.now c.args.function.now c.new-context.result (standings c.deref.result.now) (statements (code_of c.args.function.now.body)) c.in_ok-keep_all.field-0 c.keep_all.new.context.values c.new-context.ensures lists c.if-not-branch.true c.in_ok-keep_all.ensures.fit

pub returns-then-not-all_may_leave-clause-typed : goal.returns-then-not-all_may_leave-clause-typed
returns-then-not-all_may_leave-clause-typed c =
    let lists = ap standings c.deref.ensures.value ∙ c.in_ok-listed.ensures in
    let again = ap standings c.deref-2.ensures.value ∙ c.in_ok-listed.ensures in
    no_leave c.args.module.now c.args.function.now c.new-context.result c.keep_all.new.context (standings c.deref.result.now) (standings c.deref-2.result.now) (statements (code_of c.args.function.now.body)) c.in_ok-keep_all.field-0 c.new-context.ensures lists again c.in_ok-keep_all.ensures.same c.if-not-branch.false c.in_ok-keep_all.ensures.fit
    (λ h. let f = c.all_may_leave.ensures.1 h in cc (f, c.if-not-all_may_leave.true))

pub returns-clause-typed : goal.returns-clause-typed
returns-clause-typed c =
    let lists = ap standings c.deref.ensures.value ∙ c.in_ok-listed.ensures in
    let again = ap standings c.deref-2.ensures.value ∙ c.in_ok-listed.ensures in
    all_types c.args.module.now c.args.function.now c.new-context.result c.keep_all.new.context (standings c.deref.result.now) (standings c.deref-2.result.now) (statements (code_of c.args.function.now.body)) c.in_ok-keep_all.field-0 c.into_known.result.items c.new-context.ensures lists again c.in_ok-keep_all.ensures.same c.if-not-branch.false c.in_ok-keep_all.ensures.fit
    (c.all_may_leave.ensures.0 c.if-not-all_may_leave.false) c.into_known.ensures.types

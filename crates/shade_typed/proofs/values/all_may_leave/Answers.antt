use Rattle.std.proofs.Common.{arith}
use Rattle.shade_typed.proofs.AnswerLaws.{refutes, confirms}
use Rattle.shade_typed.proofs.ValueLaws.{leave_more, leave_none, leave_all}
use Rattle.shade_typed.proofs.values.all_may_leave.Goals as goal

pub returns-then-not-may_leave : goal.returns-then-not-may_leave
returns-then-not-may_leave c = refutes (leave_none c.args.context.now c.args.listed.now c.statements.statement-index c.statement-item.result c.statements-test.true c.statement-item.is (λ h. let f = c.may_leave.ensures.1 h in cc (f, c.if-not-may_leave.true)))

pub statements-preserved : goal.statements-preserved
statements-preserved c = leave_more c.args.context.now c.args.listed.now c.statements.statement-index c.statement-item.result c.statements-test.true c.statement-item.is (c.may_leave.ensures.0 c.if-not-may_leave.false) c.statements.invariant

pub returns : goal.returns
returns c = confirms (leave_all c.args.context.now c.args.listed.now c.statements.statement-index (omega (arith, c.statements-test.false)) c.statements.invariant)

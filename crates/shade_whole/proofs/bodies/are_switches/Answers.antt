use Rattle.std.proofs.Common.{arith}
use Rattle.shade_whole.proofs.BodyLaws.{switches_more, switches_none, switches_all}
use Rattle.shade_whole.proofs.Tells.{refutes, confirms}
use Rattle.shade_whole.proofs.bodies.are_switches.Goals as goal

pub returns-then-not-branch : goal.returns-then-not-branch
returns-then-not-branch c =
    refutes (switches_none c.args.listed.now c.statements.statement-index c.statement-item.result c.statements-test.true c.statement-item.is (λ h. let f = c.in_ok-switch_is.ensures.1 h in cc (f, c.if-not-branch.true)))

pub statements-preserved : goal.statements-preserved
statements-preserved c =
    switches_more c.args.listed.now c.statements.statement-index c.statement-item.result c.statements-test.true c.statement-item.is (c.in_ok-switch_is.ensures.0 c.if-not-branch.false) c.statements.invariant

pub returns : goal.returns
returns c = confirms (switches_all c.args.listed.now c.statements.statement-index (omega (arith, c.statements-test.false)) c.statements.invariant)

use Rattle.std.proofs.Common.{rules, sym}
use Rattle.shade_typed.proofs.ActLaws.{no_callee, call_gives}
use Rattle.shade_typed.proofs.acts.call_fit.Goals as goal

pub returns-in_default-clause-fit : goal.returns-in_default-clause-fit
returns-in_default-clause-fit c = no_callee c.args.context.now c.args.number c.args.arguments.now (sym c.in_default.ensures)

pub returns-clause-fit : goal.returns-clause-fit
returns-clause-fit c = call_gives c.args.context.now c.args.number c.args.arguments.now c.in-Some.callee.now _ (sym c.in-Some.ensures) (search rules) (rw c.as_slice.ensures at (c.all_suit.ensures.0 c.if-not-all_suit.false)) c.result_fit.ensures.fit

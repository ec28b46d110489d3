use Rattle.std.proofs.Common.{sym, ◌∙◌}
use Rattle.shade_typed.proofs.RuleLaws.{of_function, of_operator, of_other}
use Rattle.shade_typed.proofs.rule.rule_of.Goals as goal

pub returns-in-Some : goal.returns-in-Some
returns-in-Some c = of_operator c.args.op c.in-Some.builtin (sym c.in-Some.ensures)

pub returns-in-Some-function : goal.returns-in-Some-function
returns-in-Some-function c = of_function c.args.op c.in-Some-function.builtin (sym c.in_default.ensures) (sym c.in-Some-function.ensures)

pub returns : goal.returns
returns c = c.other_rule.ensures ∙ of_other c.args.op (sym c.in_default.ensures) (sym c.in_default-function.ensures)

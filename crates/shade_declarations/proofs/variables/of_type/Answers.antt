use Rattle.std.proofs.Common.{subst}
use Rattle.shade_known.specs.Answers.{Answers}
use Rattle.shade_declarations.specs.Variables.{OfType}
use Rattle.shade_declarations.proofs.Declaring.{variable_so, variable_of_type}
use Rattle.shade_declarations.proofs.variables.of_type.Goals as goal

pub returns-in-Some-clause-answer : goal.returns-in-Some-clause-answer
returns-in-Some-clause-answer c =
    subst (λ z. Answers (OfType c.args.known.now c.args.names.now c.args.var.now c.args.id z) c.judged.result) c.in-Some.ensures.ty
    (variable_so c.args.known.now c.args.names.now c.args.var.now c.args.id c.in-Some.ty c.broken_rule-broken.result c.value_in-value.result c.judged.result
    c.value_in-value.ensures c.broken_rule-broken.ensures c.judged.ensures)

pub returns-in-Some-clause-of : goal.returns-in-Some-clause-of
returns-in-Some-clause-of c =
    variable_of_type c.args.known.now.types c.in-Some.ty c.in-Some.ensures.of c.broken_rule-broken.result c.args.known.now c.args.var.now c.value_in-value.result
    c.judged.result c.judged.ensures

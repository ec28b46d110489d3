use Rattle.std.proofs.Common.{subst}
use Rattle.shade_known.specs.Answers.{Answers}
use Rattle.shade_declarations.specs.Variables.{VariableBy}
use Rattle.shade_declarations.proofs.variables.variable.Goals as goal

pub returns-in-None-clause-answer : goal.returns-in-None-clause-answer
returns-in-None-clause-answer c =
    subst (λ z. Answers (VariableBy z c.args.known.now c.args.names.now c.args.var.now c.args.id) c.typed.result) c.in-None.ensures c.typed.ensures.answer

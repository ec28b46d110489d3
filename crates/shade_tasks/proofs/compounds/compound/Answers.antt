use Rattle.shade_tasks.proofs.Operating.{compound_wrong, compound_right}
use Rattle.shade_tasks.proofs.compounds.compound.Goals as goal

pub returns-in_err-after_operator-clause-answer : goal.returns-in_err-after_operator-clause-answer
returns-in_err-after_operator-clause-answer c =
    compound_wrong c.args.known.now c.args.operator c.args.at c.args.target c.args.value c.application.result c.type_at.result c.operate-typed.result
    c.application.ensures c.type_at.ensures.ty c.operate-typed.ensures.answer
    c.in_err-after_operator.field-0.0 _ c.in_err-after_operator.ensures.answer c.from_residual.ensures.1

pub returns-clause-answer : goal.returns-clause-answer
returns-clause-answer c =
    compound_right c.args.known.now c.args.operator c.args.at c.args.target c.args.value c.application.result c.type_at.result c.operate-typed.result
    c.application.ensures c.type_at.ensures.ty c.operate-typed.ensures.answer
    c.in_ok-after_operator.field-0 c.application-asked.result c.operate.result c.unless_fault.result c.in_ok-after_operator.ensures.answer
    c.application-asked.ensures c.operate.ensures.answer c.unless_fault.ensures.answer

pub returns-clause-of : goal.returns-clause-of
returns-clause-of c = c.unless_fault.ensures.of c.args.known.now.types

use Rattle.shade_typing.proofs.Converting.{assigned_so, not_assigned}
use Rattle.shade_typing.proofs.assignments.assigned.Goals as goal

pub returns-in-Some-clause-answer : goal.returns-in-Some-clause-answer
returns-in-Some-clause-answer c =
    assigned_so c.args.known.now c.args.target c.args.value c.in-Some.to c.converted.result c.checked.result c.in-Some.ensures.ty c.checked.ensures.answer c.converted.ensures

pub returns-in-Some-clause-of : goal.returns-in-Some-clause-of
returns-in-Some-clause-of c = c.checked.ensures.of c.args.known.now.types

pub returns-in-None-clause-answer : goal.returns-in-None-clause-answer
returns-in-None-clause-answer c = rw c.breaks.ensures (not_assigned c.args.known.now c.args.target c.args.value c.in-None.ensures.ty)

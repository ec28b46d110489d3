use Rattle.shade_tasks.proofs.Converting.{converts_so, not_converted}
use Rattle.shade_tasks.proofs.declared.converts.Goals as goal

pub returns-in-Some-clause-answer : goal.returns-in-Some-clause-answer
returns-in-Some-clause-answer c =
    converts_so c.args.known.now c.args.value c.args.to c.in-Some.to c.converted.result c.checked.result c.in-Some.is c.checked.ensures.answer c.converted.ensures

pub returns-in-Some-clause-of : goal.returns-in-Some-clause-of
returns-in-Some-clause-of c = c.checked.ensures.of c.args.known.now.types

pub returns-in-None-clause-answer : goal.returns-in-None-clause-answer
returns-in-None-clause-answer c = rw c.breaks.ensures (not_converted c.args.known.now c.args.value c.args.to c.in-None.is)

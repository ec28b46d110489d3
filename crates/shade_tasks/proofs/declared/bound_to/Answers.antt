use Rattle.std.proofs.Common.{subst}
use Rattle.std.specs.Prelude.{IfSome}
use Rattle.shade_values.specs.Sound.{IsOf}
use Rattle.shade_tasks.proofs.Converting.{bound_so, not_bound}
use Rattle.shade_tasks.proofs.declared.bound_to.Goals as goal

pub returns-in-Some-clause-answer : goal.returns-in-Some-clause-answer
returns-in-Some-clause-answer c =
    bound_so c.args.known.now c.args.value c.args.to c.in-Some.to c.converted.result c.bound.result c.in-Some.is c.bound.ensures.answer c.converted.ensures

pub returns-in-Some-clause-of : goal.returns-in-Some-clause-of
returns-in-Some-clause-of c = c.bound.ensures.of c.args.known.now.types (subst (λ z. IfSome z (IsOf c.args.known.now.types)) c.in-Some.is c.requires)

pub returns-in-None-clause-answer : goal.returns-in-None-clause-answer
returns-in-None-clause-answer c = rw c.breaks.ensures (not_bound c.args.known.now c.args.value c.args.to c.in-None.is)

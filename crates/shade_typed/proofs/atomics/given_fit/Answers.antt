use Rattle.shade_typed.proofs.AtomicLaws.{given_none, given_some}
use Rattle.shade_typed.proofs.atomics.given_fit.Goals as goal

pub returns-in_default-find-clause-fit : goal.returns-in_default-find-clause-fit
returns-in_default-find-clause-fit c = rw c.in-Some.is (given_none c.args.context.now.shader.types c.in-Some.ty c.in_default-find.ensures.found)

pub returns-clause-fit : goal.returns-clause-fit
returns-clause-fit c = rw c.in-Some.is (given_some c.args.context.now.shader.types c.in-Some.ty c.in-Some-find.found.ty c.in-Some-find.ensures.found)

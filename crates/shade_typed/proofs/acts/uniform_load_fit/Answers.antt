use Rattle.std.proofs.Common.{rules}
use Rattle.shade_typed.specs.Places.{origin_of}
use Rattle.shade_typed.proofs.ActLaws.{no_uniform, other_memory, uniform}
use Rattle.shade_typed.proofs.acts.uniform_load_fit.Goals as goal

pub returns-in_default-clause-fit : goal.returns-in_default-clause-fit
returns-in_default-clause-fit c = no_uniform c.args.context.now c.args.view.now c.in_default.ensures.place

pub returns-then-ne-clause-fit : goal.returns-then-ne-clause-fit
returns-then-ne-clause-fit c = other_memory c.args.context.now c.args.view.now (origin_of c.in-Some.place) c.in-Some.ensures.place (search rules)

pub returns-clause-fit : goal.returns-clause-fit
returns-clause-fit c = uniform c.args.context.now c.args.view.now (origin_of c.in-Some.place) c.in-Some.ensures.place (search rules)

use Rattle.shade_typed.specs.Places.{origin_of}
use Rattle.shade_typed.proofs.ActLaws.{no_load, load}
use Rattle.shade_typed.proofs.acts.load_fit.Goals as goal

pub returns-in_default-clause-fit : goal.returns-in_default-clause-fit
returns-in_default-clause-fit c = no_load c.args.context.now c.args.view.now c.in_default.ensures.place

pub returns-clause-fit : goal.returns-clause-fit
returns-clause-fit c = load c.args.context.now c.args.view.now (origin_of c.in-Some.place) c.in-Some.ensures.place

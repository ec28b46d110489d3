use Rattle.shade_typed.specs.Places.{origin_of}
use Rattle.shade_typed.proofs.ActLaws.{no_length, not_endless, no_number, length_is}
use Rattle.shade_typed.proofs.acts.length_fit.Goals as goal

pub returns-in_default-clause-fit : goal.returns-in_default-clause-fit
returns-in_default-clause-fit c = no_length c.args.context.now c.args.view.now c.in_default.ensures.place

pub returns-in_default-ty : goal.returns-in_default-ty
returns-in_default-ty c = record { fit = not_endless c.args.context.now c.args.view.now (origin_of c.in-Some.place) c.in-Some.ensures.place c.in_default-ty.not-RuntimeArray; stands = tt }

pub returns-in_default-find-clause-fit : goal.returns-in_default-find-clause-fit
returns-in_default-find-clause-fit c = no_number c.args.context.now c.args.view.now c.in_default-find.ensures.found

pub returns-clause-fit : goal.returns-clause-fit
returns-clause-fit c = length_is c.args.context.now c.args.view.now (origin_of c.in-Some.place) c.in-RuntimeArray.field-0 c.in-Some-find.found.ty c.in-Some.ensures.place c.in-RuntimeArray.is c.in-Some-find.ensures.found

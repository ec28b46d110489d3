use Rattle.shade_typed.specs.Places.{origin_of}
use Rattle.shade_typed.proofs.PlaceLaws.{value_nowhere, value_unheld, value_is}
use Rattle.shade_typed.proofs.places.value_place.Goals as goal

pub returns-in_default-clause-place : goal.returns-in_default-clause-place
returns-in_default-clause-place c = value_nowhere c.args.context.now c.args.view.now c.in_default.ensures.place

pub returns-then-not-is_held-clause-place : goal.returns-then-not-is_held-clause-place
returns-then-not-is_held-clause-place c =
    let tells = rw c.types.ensures.same at c.is_held.ensures in
    value_unheld c.args.context.now c.args.view.now c.in-Some.place.at.id (origin_of c.in-Some.place) c.in-Some.ensures.place c.in-Some.ensures.stands (λ h. let f = tells.1 h in cc (f, c.if-not-is_held.true))

pub returns-clause-place : goal.returns-clause-place
returns-clause-place c =
    let tells = rw c.types.ensures.same at c.is_held.ensures in
    value_is c.args.context.now c.args.view.now c.in-Some.place.at.id (origin_of c.in-Some.place) c.in-Some.ensures.place c.in-Some.ensures.stands (tells.0 c.if-not-is_held.false)

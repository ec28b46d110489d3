use Rattle.shade_typed.specs.Places.{origin_of}
use Rattle.shade_typed.proofs.AnswerLaws.{refutes}
use Rattle.shade_typed.proofs.ArgumentLaws.{unnamed, alike}
use Rattle.shade_typed.proofs.arguments.view_suits.Goals as goal

pub returns-in_default-place_of : goal.returns-in_default-place_of
returns-in_default-place_of c = rw c.in-Pointer.is (refutes (unnamed c.args.context.now c.args.view.now c.in-Pointer.field-0 c.in-Pointer.id c.in_default-place_of.ensures.place))

pub returns : goal.returns
returns c =
    let points = rw c.types.ensures.same at (rw c.get.ensures at c.in-Some.ensures.place) in
    rw c.in-Pointer.is (alike c.args.context.now c.args.view.now c.in-Pointer.field-0 c.in-Pointer.id (origin_of c.in-Some.wanted) (origin_of c.in-Some-place_of.place) c.are_alike.result points c.in-Some-place_of.ensures.place c.are_alike.ensures)

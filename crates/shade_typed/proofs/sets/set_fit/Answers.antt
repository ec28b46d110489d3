use Rattle.shade_typed.specs.Places.{HaveTypes}
use Rattle.shade_typed.proofs.AnswerLaws.{holds}
use Rattle.shade_typed.proofs.OperandLaws.{all_held}
use Rattle.shade_typed.proofs.SetLaws.{set_gives}
use Rattle.shade_typed.proofs.sets.set_fit.Goals as goal

pub set_type-requires : goal.set_type-requires
set_type-requires c =
    let have = rw c.in-Some.is at c.in_ok-types.ensures in
    rw c.deref.ensures.value (all_held c.args.context.now c.args.operands.now c.in-Some.types.items (holds (HaveTypes c.args.context.now c.args.operands.now) c.in-Some.types.items have))

pub returns-clause-fit : goal.returns-clause-fit
returns-clause-fit c =
    let have = rw c.in-Some.is at c.in_ok-types.ensures in
    set_gives c.args.context.now c.args.op c.args.operands.now c.in-Some.types.items c.in-Some-set_type.found.ty have (rw c.deref.ensures.value at c.in-Some-set_type.ensures.found)

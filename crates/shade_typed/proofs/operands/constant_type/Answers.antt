use Rattle.shade_typed.proofs.OperandLaws.{constant_none, constant_some}
use Rattle.shade_typed.proofs.operands.constant_type.Goals as goal

pub returns-then-not-is_value_of : goal.returns-then-not-is_value_of
returns-then-not-is_value_of c =
    let tells = rw c.types.ensures.same at c.is_value_of.ensures in
    constant_none c.args.context.now c.types.ensures.sound c.args.id c.args.value.now (λ h. absurd (let f = tells.1 h in cc (f, c.if-not-is_value_of.true)))

pub returns : goal.returns
returns c =
    let tells = rw c.types.ensures.same at c.is_value_of.ensures in
    constant_some c.args.context.now c.types.ensures.sound c.args.id c.args.value.now c.held_type.result (tells.0 c.if-not-is_value_of.false) c.held_type.ensures

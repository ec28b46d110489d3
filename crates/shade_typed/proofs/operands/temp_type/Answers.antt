use Rattle.shade_typed.proofs.OperandLaws.{temp_none, temp_some}
use Rattle.shade_typed.proofs.operands.temp_type.Goals as goal

pub returns-in_default : goal.returns-in_default
returns-in_default c = temp_none c.args.context.now c.args.number c.in_default.ensures.found

pub returns : goal.returns
returns c = temp_some c.args.context.now c.args.number c.in-Some.found.id c.in-Some.found.ty c.held_type.result c.in-Some.ensures.found c.in-Some.ensures.stands c.held_type.ensures

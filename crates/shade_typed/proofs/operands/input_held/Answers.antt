use Rattle.std.proofs.Common.{Some, None}
use Rattle.shade_typed.proofs.OperandLaws.{input_is, input_simple}
use Rattle.shade_typed.proofs.operands.input_held.Goals as goal

pub find-requires : goal.find-requires
find-requires c = rw c.input_type.ensures (input_simple c.args.which)

pub returns-in_default : goal.returns-in_default
returns-in_default c = input_is c.args.context.now.shader.types c.args.which None (rw c.input_type.ensures at c.in_default.ensures.found)

pub returns : goal.returns
returns c = input_is c.args.context.now.shader.types c.args.which (Some c.in-Some.found.ty) (rw c.input_type.ensures at c.in-Some.ensures.found)

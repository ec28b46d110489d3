use Rattle.std.proofs.Common.{arith}
use Rattle.shade_typed.proofs.OperandLaws.{none_so_far, one_more, none_more, have_all}
use Rattle.shade_typed.proofs.operands.operand_types.Goals as goal

pub operands-init : goal.operands-init
operands-init c = rw c.new-types.ensures.items (none_so_far c.args.context.now c.args.operands.now)

pub returns-in_default : goal.returns-in_default
returns-in_default c = none_more c.args.context.now c.args.operands.now c.operands.operand-index c.operand-item.result c.operands.types.items c.operands-test.true c.operand-item.is c.in_default.ensures c.operands.invariant

pub operands-preserved : goal.operands-preserved
operands-preserved c = rw c.in_ok-push.ensures.items (one_more c.args.context.now c.args.operands.now c.operands.operand-index c.operand-item.result c.operands.types.items c.in-Some.ty c.operands-test.true c.operand-item.is c.in-Some.ensures c.operands.invariant)

pub returns : goal.returns
returns c = have_all c.args.context.now c.args.operands.now c.operands.operand-index c.operands.types.items (omega (arith, c.operands-test.false)) c.operands.invariant

use Rattle.std.proofs.Common.{sym}
use Rattle.shade_typed.proofs.OperandLaws.{param_some}
use Rattle.shade_typed.proofs.operands.param_type.Goals as goal

pub returns : goal.returns
returns c = param_some c.args.context.now c.args.number c.in-Some.param c.value_param_type.result (sym c.in-Some.ensures) c.value_param_type.ensures

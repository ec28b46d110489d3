use Rattle.shade_typed.proofs.operands.operand_type.Goals as goal

pub returns-in-Constant : goal.returns-in-Constant
returns-in-Constant c = rw c.in-Constant.is c.constant_type.ensures

pub returns-in-Param : goal.returns-in-Param
returns-in-Param c = rw c.in-Param.is c.param_type.ensures

pub returns-in-Temp : goal.returns-in-Temp
returns-in-Temp c = rw c.in-Temp.is c.temp_type.ensures

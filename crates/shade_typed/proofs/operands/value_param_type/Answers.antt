use Rattle.shade_typed.proofs.operands.value_param_type.Goals as goal

pub returns-in-Plain : goal.returns-in-Plain
returns-in-Plain c = rw c.in-Plain.is c.held_type.ensures

pub returns-in-Input : goal.returns-in-Input
returns-in-Input c = rw c.in-Input.is c.input_held.ensures

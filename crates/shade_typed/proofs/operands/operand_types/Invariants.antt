use Rattle.shade_typed.proofs.OperandLaws.{HaveSoFar}
use Rattle.shade_typed.proofs.operands.operand_types.Given as goal

abbrev pub invariant-operands : goal.invariant-operands
invariant-operands l = HaveSoFar l.context l.operands l.operand-index l.types.items

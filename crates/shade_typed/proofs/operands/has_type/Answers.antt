use Rattle.shade_typed.proofs.AnswerLaws.{tests}
use Rattle.shade_typed.specs.Places.{HasType}
use Rattle.shade_typed.proofs.operands.has_type.Goals as goal

pub returns : goal.returns
returns c = tests (HasType c.args.context.now c.args.operand.now) c.in-Some.found c.args.ty c.is_same.result c.in-Some.ensures c.is_same.ensures

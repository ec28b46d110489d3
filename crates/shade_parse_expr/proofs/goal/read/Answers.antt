use Rattle.std.proofs.Common.{arith}
use Rattle.shade_parse_expr.proofs.AnswerLaws.{without_rank}
use Rattle.shade_parse_expr.specs.declared.goal.Goal.TheVariants as goals
use Rattle.shade_parse_expr.proofs.goal.read.Goals as goal

pub returns-in-Whole-clause-answer : goal.returns-in-Whole-clause-answer
returns-in-Whole-clause-answer c = rw c.in-Whole.is (without_rank goals.Whole 7 (omega arith) _ _ _ _ _ _ c.args.pieces.now c.expression.ensures.tree c.expression.ensures.went)

pub returns-in-TypeName-clause-answer : goal.returns-in-TypeName-clause-answer
returns-in-TypeName-clause-answer c = rw c.in-TypeName.is (without_rank goals.TypeName 0 (omega arith) _ _ _ _ _ _ c.args.pieces.now c.type_name.ensures.tree c.type_name.ensures.went)

pub returns-in-LeftSide-clause-answer : goal.returns-in-LeftSide-clause-answer
returns-in-LeftSide-clause-answer c = rw c.in-LeftSide.is (without_rank goals.LeftSide 2 (omega arith) _ _ _ _ _ _ c.args.pieces.now c.left_side.ensures.tree c.left_side.ensures.went)

pub returns-in-CallOnly-clause-answer : goal.returns-in-CallOnly-clause-answer
returns-in-CallOnly-clause-answer c = rw c.in-CallOnly.is (without_rank goals.CallOnly 1 (omega arith) _ _ _ _ _ _ c.args.pieces.now c.call_only.ensures.tree c.call_only.ensures.went)

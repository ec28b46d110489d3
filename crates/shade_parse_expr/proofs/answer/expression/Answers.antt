use Rattle.shade_parse_expr.proofs.AnswerLaws.{phrase_told, refusal_told}
use Rattle.shade_parse_expr.proofs.answer.expression.Goals as goal

pub returns-in-Ok-phrase-clause-answer : goal.returns-in-Ok-phrase-clause-answer
returns-in-Ok-phrase-clause-answer c = phrase_told _ _ _ _ _ _ _ _ _ c.deref.ensures.value c.in-Ok.ensures.are _ _ _ _ c.in-Ok-phrase.ensures.answer

pub returns-clause-answer : goal.returns-clause-answer
returns-clause-answer c = refusal_told _ _ _ _ _ _ _ _ _ c.deref.ensures.value c.in-Ok.ensures.are _ _ c.fault_of.ensures c.in-Err.ensures.answer

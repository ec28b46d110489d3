use Rattle.std.proofs.Common.{sym}
use Rattle.std.proofs.lemmas.List.{take_rest}
use Rattle.shade_lex.proofs.CommentLaws.{step-close, step-open, step-other}
use Rattle.shade_lex.proofs.comment.comment_step.Goals as goal

pub returns-then-starts_with_two : goal.returns-then-starts_with_two
returns-then-starts_with_two c = step-close _ _ _ c.requires.within c.requires.some (sym (rw take_rest at c.if-starts_with_two.ensures))

pub returns-then-starts_with_two-2 : goal.returns-then-starts_with_two-2
returns-then-starts_with_two-2 c = step-open _ _ _ c.requires.within c.requires.some (sym (rw take_rest at c.if-starts_with_two.ensures)) (sym (rw take_rest at c.if-starts_with_two-2.ensures))

pub returns-else-starts_with_two-2 : goal.returns-else-starts_with_two-2
returns-else-starts_with_two-2 c = step-other _ _ _ c.requires.within c.requires.some (sym (rw take_rest at c.if-starts_with_two.ensures)) (sym (rw take_rest at c.if-starts_with_two-2.ensures))

use Rattle.std.proofs.Common.{arith}
use Rattle.shade_lex.proofs.CommentLaws.{in_comment-step, in_comment-closed, in_comment-open}
use Rattle.shade_lex.proofs.comment.block_comment.Goals as goal

pub returns-then-depth-eq0-clause-closed : goal.returns-then-depth-eq0-clause-closed
returns-then-depth-eq0-clause-closed c = in_comment-closed _ _ _ c.requires (in_comment-step _ _ _ _ _ c.comment.invariant.some c.comment.invariant.inside c.comment_step-next.ensures) c.if-depth-eq0.true

pub comment-preserved : goal.comment-preserved
comment-preserved c = record {
  inside = in_comment-step _ _ _ _ _ c.comment.invariant.some c.comment.invariant.inside c.comment_step-next.ensures;
  some = omega arith;
}

pub returns-clause-open_one : goal.returns-clause-open_one
returns-clause-open_one c = in_comment-open _ _ _ c.comment.invariant.inside c.comment.invariant.some c.comment-test.false

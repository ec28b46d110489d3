use Rattle.std.proofs.Common.{◌-◌, ◌≤◌, length}
use Rattle.shade_lex.proofs.CommentLaws.{IsInComment}
use Rattle.shade_lex.proofs.comment.block_comment.Given as goal

abbrev pub invariant-comment : goal.invariant-comment
invariant-comment l = record { inside : IsInComment l.text l.at l.depth; some : 1 ≤ l.depth }

abbrev pub decreases-comment : goal.decreases-comment
decreases-comment l = length l.text - l.at

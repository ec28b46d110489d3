use Rattle.std.proofs.Common.{◌≡◌, ℕ, ◌<◌, ◌≤◌, false}
use Rattle.std.specs.Prelude.{slice_index}
use Rattle.shade_lex.specs.Characters.{is_line_break}
use Rattle.shade_lex.proofs.comment.line_comment.Given as goal

abbrev pub invariant-loop-at : goal.invariant-loop-at
invariant-loop-at l = (k : ℕ) → 2 ≤ k → k < l.at → is_line_break (slice_index l.text k) ≡ false

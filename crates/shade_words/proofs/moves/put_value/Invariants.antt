use Rattle.std.proofs.Common.{ℕ, ◌≡◌, ◌+◌, ◌<◌, ◌^◌, length, get_or}
use Rattle.shade_words.specs.Types.{lay}
use Rattle.shade_words.proofs.MoveLaws.{Bringing}
use Rattle.shade_words.proofs.moves.put_value.Given as goal

abbrev pub invariant-words : goal.invariant-words
invariant-words l = record {
  bringing : Bringing (lay l.types l.ty) (λ j. get_or l.from (l.first + j) 0) (λ j. get_or l.fn.words (l.to + j) 0) l.fn.words l.words l.to l.i;
  small : (j : ℕ) → j < l.i → get_or l.words (l.to + j) 0 < 2 ^ 32;
  same_length : length l.words ≡ length l.fn.words;
}

use Rattle.std.proofs.Common.{◌≡◌, ◌+◌, length, get_or}
use Rattle.shade_words.specs.Types.{lay}
use Rattle.shade_words.proofs.MoveLaws.{Bringing}
use Rattle.shade_words.proofs.moves.read_value.Given as goal

abbrev pub invariant-words : goal.invariant-words
invariant-words l = record {
  bringing : Bringing (lay l.types l.ty) (λ j. get_or l.from (l.first + j) 0) (λ j. 0) l.fn.words l.words l.to l.i;
  same_length : length l.words ≡ length l.fn.words;
}

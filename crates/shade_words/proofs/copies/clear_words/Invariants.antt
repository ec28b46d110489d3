use Rattle.std.proofs.Common.{◌≡◌, length}
use Rattle.shade_words.specs.Written.{Cleared}
use Rattle.shade_words.proofs.copies.clear_words.Given as goal

abbrev pub invariant-words : goal.invariant-words
invariant-words l = record {
  cleared : Cleared l.fn.words l.words l.first l.i;
  same_length : length l.words ≡ length l.fn.words;
}

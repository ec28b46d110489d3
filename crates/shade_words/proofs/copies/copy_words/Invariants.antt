use Rattle.std.proofs.Common.{◌≡◌, length}
use Rattle.shade_words.specs.Written.{Copied}
use Rattle.shade_words.proofs.copies.copy_words.Given as goal

abbrev pub invariant-words : goal.invariant-words
invariant-words l = record {
  copied : Copied l.fn.words l.words l.from l.to l.i;
  same_length : length l.words ≡ length l.fn.words;
}

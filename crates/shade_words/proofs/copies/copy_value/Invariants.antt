use Rattle.std.proofs.Common.{◌≡◌, length}
use Rattle.shade_words.specs.Types.{lay}
use Rattle.shade_words.proofs.CopyLaws.{Moving}
use Rattle.shade_words.proofs.copies.copy_value.Given as goal

abbrev pub invariant-words : goal.invariant-words
invariant-words l = record {
  moving : Moving (lay l.types l.ty) l.fn.words l.words l.from l.to l.i;
  same_length : length l.words ≡ length l.fn.words;
}

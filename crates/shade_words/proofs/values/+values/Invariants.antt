use Rattle.std.proofs.Common.{ℕ, ◌≡◌, ◌+◌, ◌<◌, length}
use Rattle.std.specs.Prelude.{slice_index}
use Rattle.shade_words.specs.Lays.{AreFit}
use Rattle.shade_words.specs.Types.{lay}
use Rattle.shade_words.specs.Ways.{part_lay, part_offset}
use Rattle.shade_words.proofs.CopyLaws.{Filled}
use Rattle.shade_words.proofs.values.+values.Given as goal

abbrev pub invariant-write_parts-parts : goal.invariant-write_parts-parts
invariant-write_parts-parts l = record {
  at : l.k ≡ l.part-index;
  filled : Filled (lay l.types l.ty) l.parts l.k l.fn.words l.words l.first;
  fit : (i : ℕ) → i < l.k → AreFit (part_lay (lay l.types l.ty) i) (slice_index l.words) (l.first + part_offset (lay l.types l.ty) i);
  same_length : length l.words ≡ length l.fn.words;
}

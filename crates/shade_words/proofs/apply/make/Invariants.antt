use Rattle.std.proofs.Common.{ℕ, ◌≡◌, ◌+◌, ◌<◌, length}
use Rattle.std.specs.Prelude.{slice_index, All}
use Rattle.shade_words.specs.Lays.{AreFit}
use Rattle.shade_words.specs.Types.{lay}
use Rattle.shade_words.specs.Ways.{part_lay, part_offset}
use Rattle.shade_words.specs.Spans.{IsFitSpan, values_of}
use Rattle.shade_words.proofs.CopyLaws.{Filled}
use Rattle.shade_words.proofs.apply.make.Given as goal

abbrev pub invariant-parts : goal.invariant-parts
invariant-parts l = record {
  filled : Filled (lay l.types l.place.ty) (values_of l.types (slice_index l.fn.words) l.args) l.k l.fn.words l.words l.place.first;
  fit : All (IsFitSpan l.types (slice_index l.fn.words)) l.args → (i : ℕ) → i < l.k → AreFit (part_lay (lay l.types l.place.ty) i) (slice_index l.words) (l.place.first + part_offset (lay l.types l.place.ty) i);
  same_length : length l.words ≡ length l.fn.words;
}

use Rattle.std.proofs.Common.{◌≡◌, length}
use Rattle.std.specs.Prelude.{slice_index}
use Rattle.shade_words.specs.Lays.{size}
use Rattle.shade_words.specs.Types.{lay}
use Rattle.shade_words.specs.Spans.{values_of}
use Rattle.shade_words.proofs.RowLaws.{Parting}
use Rattle.shade_words.proofs.leaves.write_leaves.Given as goal

abbrev pub invariant-parts : goal.invariant-parts
invariant-parts l = record {
  parting : Parting l.op (values_of l.types (slice_index l.fn.words) l.args) l.fn.words l.words l.place.first (size (lay l.types l.place.ty)) l.k;
  same_length : length l.words ≡ length l.fn.words;
}

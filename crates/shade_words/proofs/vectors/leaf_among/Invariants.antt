use Rattle.std.proofs.Common.{◌≡◌, drop}
use Rattle.std.specs.Prelude.{slice_index, slice_index_or}
use Rattle.std.specs.List.{flat_map}
use Rattle.shade_values.specs.Parts.{no_leaf, leaves_of}
use Rattle.shade_words.specs.Spans.{values_of}
use Rattle.shade_words.proofs.vectors.leaf_among.Given as goal

abbrev pub invariant-spans : goal.invariant-spans
invariant-spans l =
    slice_index_or (flat_map leaves_of (values_of l.types (slice_index l.words) (drop l.arg-index l.args))) l.left no_leaf
    ≡ slice_index_or (flat_map leaves_of (values_of l.types (slice_index l.words) l.args)) l.k no_leaf

use Rattle.std.proofs.Common.{ℕ, ◌≡◌, ◌<◌, false}
use Rattle.std.specs.Prelude.{slice_index}
use Rattle.shade_values.specs.Apply.{is_true}
use Rattle.shade_values.specs.Parts.{lane}
use Rattle.shade_words.specs.Spans.{value_of}
use Rattle.shade_words.proofs.sums.any_true.Given as goal

abbrev pub invariant-parts : goal.invariant-parts
invariant-parts l = (j : ℕ) → j < l.k → is_true (lane j (value_of l.types (slice_index l.words) l.span)) ≡ false

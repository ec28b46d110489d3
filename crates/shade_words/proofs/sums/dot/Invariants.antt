use Rattle.std.proofs.Common.{◌≡◌, map, fold, pos, ◌+ℤ◌, ◌*ℤ◌, w64}
use Rattle.std.specs.Int.{int_wrap}
use Rattle.std.specs.List.{range_with_len}
use Rattle.std.specs.Prelude.{slice_index}
use Rattle.shade_values.specs.Parts.{lane}
use Rattle.shade_words.specs.Spans.{value_of}
use Rattle.shade_words.proofs.sums.dot.Given as goal

abbrev pub invariant-parts : goal.invariant-parts
invariant-parts l =
    l.total ≡ int_wrap w64 (fold (λ s x. s +ℤ x) (pos 0)
    (map (λ k. (lane k (value_of l.types (slice_index l.words) l.left)).number *ℤ (lane k (value_of l.types (slice_index l.words) l.right)).number) (range_with_len 0 l.k)))

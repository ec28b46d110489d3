use Rattle.std.proofs.Common.{◌≡◌, map, fold, pos, ◌+ℤ◌, ◌*ℤ◌, w64}
use Rattle.std.specs.Int.{int_wrap}
use Rattle.std.specs.List.{range_with_len}
use Rattle.shade_values.specs.Parts.{lane}
use Rattle.shade_values.proofs.operations.dot.Given as goal

abbrev pub invariant-loop-k : goal.invariant-loop-k
invariant-loop-k l = l.total ≡ int_wrap w64 (fold (λ s x. s +ℤ x) (pos 0) (map (λ k. (lane k l.left).number *ℤ (lane k l.right).number) (range_with_len 0 l.k)))

use Rattle.std.proofs.Common.{◌≡◌, ℕ, ◌<◌, get_or}
use Rattle.shade_values.specs.Kept.{types_of}
use Rattle.shade_values.proofs.layouts.place_of.Given as goal

abbrev pub invariant-loop-place : goal.invariant-loop-place
invariant-loop-place l = (k : ℕ) → k < l.place → get_or (types_of l.entries) k l.ty ≡ l.ty → ⊥

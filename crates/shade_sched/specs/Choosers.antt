-- Functions that choose one of so many at each step.
use Rattle.std.specs.Prelude.{ℕ, ◌<◌, ◌≤◌, ◌^◌}

-- The function may be asked at each step that 64 bits number, with each count from 1 to 4,096, and what it gives is below the count.
pub record Chooses {F : Type 0} (may : F → ℕ → ℕ → Type 0) (gives : F → ℕ → ℕ → ℕ → Type 0) (f : F) : Type 0 where
  pub callable : (step count : ℕ) → step < 2 ^ 64 → 1 ≤ count → count ≤ 4096 → may f step count
  pub below : (step count choice : ℕ) → step < 2 ^ 64 → 1 ≤ count → count ≤ 4096 → gives f step count choice → choice < count

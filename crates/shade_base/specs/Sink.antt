use Rattle.std.specs.Prelude.{◌≡◌, ℕ, ◌≤◌, List, ◌++◌, take, length, Result, Ok, Err, Option}
use Rattle.std.specs.Option.{option_map}
use Rattle.shade_base.specs.Counter.{one_more}

-- what was taken, if that is told, with these bytes at its end
abbrev pub with_piece : Option (List ℕ) → List ℕ → Option (List ℕ)
with_piece taken piece = option_map (λ bytes. bytes ++ piece) taken

-- A write took the piece, or a beginning of it where it failed.
abbrev pub Takes : {T E : Type 0} → Option (List ℕ) → List ℕ → Option (List ℕ) → Result T E → Type 0
Takes before piece now (Ok _) = now ≡ with_piece before piece
Takes before piece now (Err _) = (n : ℕ) × (n ≤ length piece) × (now ≡ with_piece before (take n piece))

-- A write that failed is counted once, and one that succeeded is not.
abbrev pub IsCountedOnErr : {T E : Type 0} → ℕ → ℕ → Result T E → Type 0
IsCountedOnErr before now (Ok _) = now ≡ before
IsCountedOnErr before now (Err _) = now ≡ one_more before

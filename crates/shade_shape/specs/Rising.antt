-- Lists of numbers that rise.
use Rattle.std.specs.Prelude.{ℕ, ◌<◌, ◌≤◌, Bool, true, leb, List, Option, None, Some, length, slice_index}

-- no number is below one before it
abbrev pub Rises : List ℕ → Type 0
Rises xs = (i j : ℕ) → i ≤ j → j < length xs → slice_index xs i ≤ slice_index xs j

-- a number is not below the last one, if there is one
abbrev pub follows : Option ℕ → ℕ → Bool
follows None n = true
follows (Some last) n = leb last n

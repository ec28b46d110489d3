-- The job that some bytes state: a list of lane numbers, one a line.
use Rattle.std.specs.Prelude.{◌≡◌, ℕ, ◌<◌, ◌≤◌, List, [], ◌∷◌, ◌++◌, length}
use Rattle.std.specs.List.{flat_map}
use Rattle.std.specs.Fmt.{decimal}

-- a number and its line break
abbrev pub line : ℕ → List ℕ
line n = decimal n ++ 10 ∷ []

abbrev pub lines : List ℕ → List ℕ
lines = flat_map line

abbrev pub AllBelow : ℕ → List ℕ → Type 0
AllBelow lanes [] = Unit {0}
AllBelow lanes (n ∷ steps) = (n < lanes) × AllBelow lanes steps

-- The bytes are the lines of these numbers, each the number of a lane, of which there are so many.
pub record States (lanes : ℕ) (bytes steps : List ℕ) : Type 0 where
  pub spelled : bytes ≡ lines steps
  pub lanes_each : AllBelow lanes steps
  pub few_bytes : length bytes ≤ 16777216
  pub few_steps : length steps ≤ 10000000

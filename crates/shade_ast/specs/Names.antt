-- Names by number: a list of texts, in which each text stands once.
use Rattle.std.specs.Prelude.{◌≡◌, ℕ, List, [], ◌∷◌, ◌++◌, Some, slice_get, if◌then◌else◌}
use Rattle.std.specs.List.{list_any, position_or_len}
use Rattle.std.specs.Str.{bytes_eq}

-- the number of a text: its place in the list, or the next one where it is new
abbrev pub number_in : List (List ℕ) → List ℕ → ℕ
number_in names text = position_or_len (bytes_eq text) names

-- the names once a text has a number: a known one stays where it is, a new one comes last
abbrev pub with_name : List (List ℕ) → List ℕ → List (List ℕ)
with_name names text = if list_any (bytes_eq text) names then names else names ++ text ∷ []

-- no text has two numbers
pub record IsDistinct (names : List (List ℕ)) : Type 0 where
  pub once : (m n : ℕ) (text : List ℕ) → slice_get names m ≡ Some text → slice_get names n ≡ Some text → m ≡ n

-- names only come at the end, so that each number keeps its text
abbrev pub Grows : List (List ℕ) → List (List ℕ) → Type 0
Grows old new = (more : List (List ℕ)) × (new ≡ old ++ more)

-- Pointers into a job. (RFC 6901, "JavaScript Object Notation (JSON) Pointer".)
use Rattle.std.specs.Prelude.{ℕ, ◌==◌, if◌then◌else◌, List, [], ◌∷◌, ◌++◌}
use Rattle.std.specs.List.{flat_map}
use Rattle.std.specs.Fmt.{decimal}

-- `~0` stands for `~`, and `~1` for `/`
abbrev pub escaped_byte : ℕ → List ℕ
escaped_byte c = if c == 126 then 126 ∷ 48 ∷ [] else if c == 47 then 126 ∷ 49 ∷ [] else c ∷ []

abbrev pub escaped : List ℕ → List ℕ
escaped = flat_map escaped_byte

-- the pointer to a member of what base points to
abbrev pub member_pointer : List ℕ → List ℕ → List ℕ
member_pointer base name = (base ++ 47 ∷ []) ++ escaped name

-- the pointer to an item
abbrev pub item_pointer : List ℕ → ℕ → List ℕ
item_pointer base index = (base ++ 47 ∷ []) ++ decimal index

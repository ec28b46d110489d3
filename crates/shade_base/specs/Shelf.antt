use Rattle.std.specs.Prelude.{◌≡◌, ℕ, ◌+◌, List, [], ◌∷◌, ◌++◌, take, count_by, Result, Err, Option}
use Rattle.std.specs.Str.{bytes_eq}
use Rattle.std.specs.Option.{option_map}
use Rattle.shade_base.specs.declared.shelf.ShelfRefusal.{ShelfRefusal}
use Rattle.shade_base.specs.declared.shelf.ShelfRefusal.TheVariants.{Failed}

-- the count of faults of a name: how often it stands among the failed names
abbrev pub faults_of : List ℕ → List (List ℕ) → ℕ
faults_of name failed = count_by (bytes_eq name) failed

-- What a read of this name did to the failed names: one that failed added its name once, at their end, and any other left them.
abbrev pub IsFailedBy : {T : Type 0} → List ℕ → List (List ℕ) → List (List ℕ) → Result T ShelfRefusal → Type 0
IsFailedBy name before now (Err Failed) = now ≡ before ++ name ∷ []
IsFailedBy name before now _ = now ≡ before

-- the first bytes of the named text, at most one more than the limit, where the name has a text
abbrev pub front_of : (List ℕ → Option (List ℕ)) → List ℕ → ℕ → Option (List ℕ)
front_of texts name limit = option_map (take (limit + 1)) (texts name)

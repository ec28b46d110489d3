-- What a root is seen as, and which roots no access names.
use Rattle.std.specs.Prelude.{ℕ, ◌≤◌, List, map, drop, length}
use Rattle.std.specs.Coded.{le_prop}
use Rattle.shade_race.specs.declared.root.Root.{Root}
use Rattle.shade_race.specs.History.{RootCells, root_races}

abbrev pub seen_root : Root → RootCells
seen_root root = record { space = root.space; cells = root.cells.items }

-- No root has a race whose number is past 32 bits, which no access names.
abbrev pub AreUnnamed : List Root → Type 0
AreUnnamed roots = (n : ℕ) → 4294967296 ≤ n → length (root_races n (map seen_root (drop n roots))) ≤ 0

pub unnamed_prop : (roots : List Root) → IsProp (AreUnnamed roots)
unnamed_prop roots f g = λ i n h. le_prop (f n h) (g n h) i

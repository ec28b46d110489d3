-- Rule: the lines of a run's report that tell its races: how many there are, and of each the variable, the word, and the two accesses, the
-- earlier one first. (WGSL, "Memory Model": data races.)
use Rattle.std.specs.Prelude.{ℕ, List, [], ◌++◌, codes, length, Option, None, Some, slice_get}
use Rattle.std.specs.List.{flat_map}
use Rattle.std.specs.Fmt.{decimal}
use Rattle.shade_values.specs.declared.touch.TouchKind.{TouchKind}
use Rattle.shade_values.specs.declared.touch.TouchKind.TheVariants.{Read, Write, Atomic}
use Rattle.shade_core.specs.declared.module.Root.{Root}
use Rattle.shade_race.specs.declared.access.LaneAccess.{LaneAccess}
use Rattle.shade_race.specs.declared.access.Race.{Race}

abbrev pub kind_word : TouchKind → List ℕ
kind_word Read = codes "read"
kind_word Write = codes "write"
kind_word Atomic = codes "atomic"

abbrev pub name_of : Option Root → List ℕ
name_of None = []
name_of (Some root) = root.name

-- the name of the variable with a number
abbrev pub root_name : List Root → ℕ → List ℕ
root_name roots number = name_of (slice_get roots number)

abbrev pub access_text : LaneAccess → List ℕ
access_text access = codes " step " ++ (decimal access.step ++ (codes " lane " ++ (decimal access.lane ++ (codes " " ++ kind_word access.kind))))

abbrev pub race_line : List Root → Race → List ℕ
race_line roots race =
    (codes "race " ++ root_name roots race.root) ++ ((codes " " ++ decimal race.word) ++ (access_text race.found.first ++ (access_text race.found.second ++ codes "\n")))

abbrev pub race_lines : List Root → List Race → List ℕ
race_lines roots races = (codes "races " ++ (decimal (length races) ++ codes "\n")) ++ flat_map (race_line roots) races

-- Rules: the memory that all lanes of a workgroup share, as words. (WGSL, "Memory Locations" and "Memory Access Operation".)
use Rattle.std.specs.Prelude.{ℕ, ◌+◌, ◌-◌, List, [], ◌∷◌, map, length, replicate, take, drop, slice_get, slice_set, Option, None, Some, if◌then◌else◌}
use Rattle.std.specs.List.{range_with_len}
use Rattle.shade_values.specs.declared.types.Space.{Space}
use Rattle.shade_values.specs.declared.types.Space.TheVariants as space
use Rattle.shade_values.specs.Table.{Table}
use Rattle.shade_words.specs.Lays.{size}
use Rattle.shade_words.specs.Types.{lay}
use Rattle.shade_words.specs.Words.{is_among}
use Rattle.shade_core.specs.declared.module.CoreModule.{CoreModule}
use Rattle.shade_core.specs.declared.module.Root.{Root}
use Rattle.shade_spots.specs.Changes.{Change}
use Rattle.shade_spots.specs.Spots.{Piece}

-- by number of the variable, its words; those of a private variable are none, as each lane keeps them itself
abbrev pub Memory : Type 0
Memory = List (List ℕ)

abbrev pub words_by : Option (List ℕ) → List ℕ
words_by None = []
words_by (Some words) = words

abbrev pub words_of : Memory → ℕ → List ℕ
words_of memory root = words_by (slice_get memory root)

-- the words of a piece, those between parts too
abbrev pub read : Memory → Piece → List ℕ
read memory p = take p.count (drop p.first (words_of memory p.root))

-- word i, which is changed where it is one of so many from the first one on
abbrev pub word_after : (first count : ℕ) → Change → (i old : ℕ) → ℕ
word_after first count change i old = if is_among first count i then change (i - first) old else old

-- of words of which the first has a number, those that are among so many from a first one on are changed
abbrev pub changed_from : (number first count : ℕ) → Change → List ℕ → List ℕ
changed_from number first count change [] = []
changed_from number first count change (w ∷ words) = word_after first count change number w ∷ changed_from (number + 1) first count change words

-- words of which so many, from one on, are changed
abbrev pub changed : (first count : ℕ) → Change → List ℕ → List ℕ
changed first count change words = changed_from 0 first count change words

-- the memory of which a piece is changed
abbrev pub written : Memory → Piece → Change → Memory
written memory p change = slice_set memory p.root (changed p.first p.count change (words_of memory p.root))

-- ---- at the start

-- A buffer begins with the words that are handed in, workgroup memory as zero.
abbrev pub first_words : Table → Root → Space → List ℕ → List ℕ
first_words t root space.Storage handed = handed
first_words t root space.Uniform handed = handed
first_words t root space.Workgroup handed = replicate (size (lay t root.ty)) 0
first_words t root _ handed = []

abbrev pub first_by : CoreModule → Option Root → List ℕ → List ℕ
first_by shader None handed = []
first_by shader (Some root) handed = first_words shader.types root root.space handed

-- the memory at the start of a run that was handed these words for each variable
abbrev pub begin : CoreModule → List (List ℕ) → Memory
begin shader handed = map (λ root. first_by shader (slice_get shader.roots root) (words_of handed root)) (range_with_len 0 (length shader.roots))

-- how many words a variable has
abbrev pub length_in : Memory → ℕ → ℕ
length_in memory root = length (words_of memory root)

-- Rule: the lines of a run's report that tell what buffers hold: of each variable in the space `storage` that a shader may write, in the order
-- of the text, its name and its words. (WGSL, "Address Spaces" and "Memory Access Mode".)
use Rattle.std.specs.Prelude.{ℕ, ◌+◌, Bool, true, false, if◌then◌else◌, List, [], ◌∷◌, ◌++◌, codes}
use Rattle.std.specs.List.{flat_map}
use Rattle.std.specs.Fmt.{decimal}
use Rattle.shade_values.specs.declared.types.Space.{Space}
use Rattle.shade_values.specs.declared.types.Space.TheVariants.{Storage}
use Rattle.shade_values.specs.declared.types.Access.{Access}
use Rattle.shade_values.specs.declared.types.Access.TheVariants.{ReadWrite}
use Rattle.shade_core.specs.declared.module.Root.{Root}
use Rattle.shade_spots.specs.Memory.{Memory, words_of}

abbrev pub is_told : Space → Access → Bool
is_told Storage ReadWrite = true
is_told _ _ = false

-- an unsigned decimal, with a space before it
abbrev pub word_text : ℕ → List ℕ
word_text word = codes " " ++ decimal word

abbrev pub buffer_line : Root → List ℕ → List ℕ
buffer_line root words = (codes "buffer " ++ root.name) ++ (flat_map word_text words ++ codes "\n")

-- the line of a variable, where it has one
abbrev pub buffer_part : Root → List ℕ → List ℕ
buffer_part root words = if is_told root.space root.access then buffer_line root words else []

-- the lines of the variables, the first of which has this number
abbrev pub buffer_lines : Memory → ℕ → List Root → List ℕ
buffer_lines memory number [] = []
buffer_lines memory number (root ∷ roots) = buffer_part root (words_of memory number) ++ buffer_lines memory (number + 1) roots

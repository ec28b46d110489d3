-- How deep the types of a table are nested, kept up to a depth that is too much.
use Rattle.std.specs.Prelude.{ℕ, ◌+◌, min, max, List, [], ◌∷◌, slice_index_or}
use Rattle.shade_values.specs.declared.types.ShadeType.{ShadeType}
use Rattle.shade_values.specs.declared.types.ShadeType.TheVariants as type
use Rattle.shade_values.specs.declared.types.TypeId.{TypeId}
use Rattle.shade_values.specs.Table.{StructView, members_at}
use Rattle.shade_values.specs.Shape.{Shape}
use Rattle.shade_core.specs.Types.{nesting}

-- what is kept of a type
abbrev pub depth_of : Shape → ℕ
depth_of shape = min 256 (nesting shape)

abbrev pub depth_in : List ℕ → TypeId → ℕ
depth_in known id = slice_index_or known id.0 0

abbrev pub deepest : List ℕ → List (List ℕ × TypeId) → ℕ
deepest known [] = 0
deepest known (m ∷ ms) = max (depth_in known m.1) (deepest known ms)

abbrev pub depth_by : List ℕ → List StructView → ShadeType → ℕ
depth_by known structs (type.Plain s) = 0
depth_by known structs (type.Vector parts s) = 0
depth_by known structs (type.Array element count) = min 256 (depth_in known element + 1)
depth_by known structs (type.RuntimeArray element) = min 256 (depth_in known element + 1)
depth_by known structs (type.Atomic s) = 0
depth_by known structs (type.Struct number) = min 256 (deepest known (members_at structs number) + 1)
depth_by known structs (type.Exchanged s) = 1
depth_by known structs (type.Pointer in_space pointee access) = 0

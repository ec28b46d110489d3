-- What a table keeps beside each type: its layout, and whether it is loadable, from those of the types before it.
use Rattle.std.specs.Prelude.{◌≡◌, ℕ, ◌<◌, ◌^◌, length, Bool, true, false, List, map, slice_index_or, nat_le, if◌then◌else◌, Result, Ok, Err}
use Rattle.std.specs.List.{list_all}
use Rattle.shade_values.specs.declared.types.Layout.{Layout}
use Rattle.shade_values.specs.declared.types.ShadeType.{ShadeType}
use Rattle.shade_values.specs.declared.types.ShadeType.TheVariants.{Plain, Vector, Array, RuntimeArray, Atomic, Struct, Exchanged, Pointer}
use Rattle.shade_values.specs.declared.types.TypeId.{TypeId}
use Rattle.shade_values.specs.declared.entry.Entry.{Entry}
use Rattle.shade_values.specs.declared.table.TableFault.{TableFault}
use Rattle.shade_values.specs.declared.table.TableFault.TheVariants.{TooLarge}
use Rattle.shade_values.specs.Table.{Table, StructView, members_at}
use Rattle.shade_values.specs.Shape.{Shape, structure, member_shapes, shapes}
use Rattle.shade_values.specs.Layouts.{layout, is_loadable, bytes, vector_layout, array_layout, struct_layout, greatest_size}
use Rattle.shade_values.specs.Sound.{IsSound}

abbrev pub types_of : List Entry → List ShadeType
types_of entries = map (λ e. e.ty) entries

abbrev pub layouts_of : List Entry → List Layout
layouts_of entries = map (λ e. e.layout) entries

abbrev pub loads_of : List Entry → List Bool
loads_of entries = map (λ e. e.loadable) entries

-- at an id
abbrev pub layout_in : List Layout → TypeId → Layout
layout_in known id = slice_index_or known id.0 (bytes 0 1)

abbrev pub load_in : List Bool → TypeId → Bool
load_in known id = slice_index_or known id.0 false

abbrev pub layout_by : List Layout → List StructView → ShadeType → Layout
layout_by known structs (Plain scalar) = bytes 4 4
layout_by known structs (Vector parts scalar) = vector_layout parts
layout_by known structs (Array element count) = array_layout count (layout_in known element)
layout_by known structs (RuntimeArray element) = array_layout 1 (layout_in known element)
layout_by known structs (Atomic scalar) = bytes 4 4
layout_by known structs (Struct number) = struct_layout (map (λ m. layout_in known m.1) (members_at structs number))
layout_by known structs (Exchanged scalar) = bytes 8 4
layout_by known structs (Pointer space pointee access) = bytes 0 1

abbrev pub loads_by : List Bool → List StructView → ShadeType → Bool
loads_by known structs (Plain scalar) = true
loads_by known structs (Vector parts scalar) = true
loads_by known structs (Array element count) = load_in known element
loads_by known structs (RuntimeArray element) = false
loads_by known structs (Atomic scalar) = false
loads_by known structs (Struct number) = list_all (λ m. load_in known m.1) (members_at structs number)
loads_by known structs (Exchanged scalar) = true
loads_by known structs (Pointer space pointee access) = false

-- the layout, or the refusal of one that is too large
abbrev pub laid : Layout → Result Layout TableFault
laid l = if nat_le l.size greatest_size then Ok l else Err (TooLarge l.size)

-- the shape of a struct with these members
abbrev pub struct_shape : Table → List (List ℕ × TypeId) → Shape
struct_shape t members = structure (member_shapes (shapes t) members)

-- the refusal of a shape for its size
abbrev pub too_large : Shape → Result TypeId TableFault
too_large shape = Err (TooLarge (layout shape).size)

abbrev pub table_of : List Entry → List StructView → Table
table_of entries structs = record { types = types_of entries; structs = structs }

pub record IsKept (entries : List Entry) (structs : List StructView) : Type 0 where
  pub laid_out : layouts_of entries ≡ map layout (shapes (table_of entries structs))
  pub loads : loads_of entries ≡ map is_loadable (shapes (table_of entries structs))
  pub sound : IsSound (table_of entries structs)
  pub few : length entries < 2 ^ 32

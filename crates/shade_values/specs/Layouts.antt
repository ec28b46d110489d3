-- How types lie in memory, in bytes. (WGSL, "Alignment and Size".)
use Rattle.std.specs.Prelude.{ℕ, ◌+◌, ◌*◌, ◌<◌, ◌≤◌, Bool, true, false, ◌&&◌, List, [], ◌∷◌, max, ◌==◌, if◌then◌else◌}
use Rattle.std.specs.Int.{next_multiple_of}
use Rattle.shade_values.specs.declared.types.Layout.{Layout}
use Rattle.shade_values.specs.Shape.{Shape, plain, vector, array, runtime_array, atomic, structure, exchanged, pointer, Shapes, no_member, member}

-- sizes above it are refused
abbrev pub greatest_size : ℕ
greatest_size = 4294967295

-- what holds of the layout of each type of a table
pub record IsSmall (l : Layout) : Type 0 where
  pub sized : l.size ≤ greatest_size
  pub aligned : 0 < l.align
  pub near : l.align ≤ 16

-- no elements, so no stride
abbrev pub bytes : ℕ → ℕ → Layout
bytes size align = record { size = size; align = align; stride = 0 }

abbrev pub vector_layout : ℕ → Layout
vector_layout parts = if parts == 2 then bytes 8 8 else if parts == 3 then bytes 12 16 else bytes 16 16

-- the stride of an array is the size of an element, rounded up to its alignment
abbrev pub stride_of : Layout → ℕ
stride_of element = next_multiple_of element.size element.align

abbrev pub array_layout : ℕ → Layout → Layout
array_layout count element = record { size = count * stride_of element; align = element.align; stride = stride_of element }

-- where the first of these members begins, when the ones before it end at `at`
abbrev pub offset_after : ℕ → Layout → ℕ
offset_after at m = next_multiple_of at m.align

-- the offset of each member: the end of the one before it, rounded up to its own alignment
abbrev pub offsets_after : ℕ → List Layout → List ℕ
offsets_after at [] = []
offsets_after at (m ∷ ms) = offset_after at m ∷ offsets_after (offset_after at m + m.size) ms

abbrev pub member_offsets : List Layout → List ℕ
member_offsets members = offsets_after 0 members

-- where the last member ends
abbrev pub end_after : ℕ → List Layout → ℕ
end_after at [] = at
end_after at (m ∷ ms) = end_after (offset_after at m + m.size) ms

-- the greatest alignment of all
abbrev pub greatest_align : List Layout → ℕ
greatest_align [] = 1
greatest_align (m ∷ ms) = max m.align (greatest_align ms)

abbrev pub struct_layout : List Layout → Layout
struct_layout members = bytes (next_multiple_of (end_after 0 members) (greatest_align members)) (greatest_align members)

abbrev mutual
  pub layout : Shape → Layout
  layout (plain scalar) = bytes 4 4
  layout (vector parts scalar) = vector_layout parts
  layout (array element count) = array_layout count (layout element)
  layout (runtime_array element) = array_layout 1 (layout element)
  layout (atomic scalar) = bytes 4 4
  layout (structure members) = struct_layout (layouts members)
  layout (exchanged scalar) = bytes 8 4
  layout pointer = bytes 0 1

  pub layouts : Shapes → List Layout
  layouts no_member = []
  layouts (member m ms) = layout m ∷ layouts ms

-- the types whose values a shader may load: no atomic, no runtime-sized array, no pointer. (WGSL, "Constructible Types" and
-- "Host-shareable Types".)
abbrev mutual
  pub is_loadable : Shape → Bool
  is_loadable (plain scalar) = true
  is_loadable (vector parts scalar) = true
  is_loadable (array element count) = is_loadable element
  is_loadable (runtime_array element) = false
  is_loadable (atomic scalar) = false
  is_loadable (structure members) = are_loadable members
  is_loadable (exchanged scalar) = true
  is_loadable pointer = false

  pub are_loadable : Shapes → Bool
  are_loadable no_member = true
  are_loadable (member m ms) = is_loadable m && are_loadable ms

-- a shape whose size is refused
abbrev pub IsLarge : Shape → Type 0
IsLarge shape = greatest_size < (layout shape).size

-- Rules: how the values of a type lie in words: as in memory, four bytes a word. (WGSL, "Alignment and Size".)
use Rattle.std.specs.Prelude.{ℕ, ◌+◌, ◌/◌, ◌<◌, ◌≤◌, length, slice_index_or}
use Rattle.shade_values.specs.declared.types.Scalar.TheVariants as scalar
use Rattle.shade_values.specs.declared.types.ShadeType.{ShadeType}
use Rattle.shade_values.specs.declared.types.ShadeType.TheVariants as type
use Rattle.shade_values.specs.declared.types.TypeId.{TypeId}
use Rattle.shade_values.specs.Table.{Table, members_at}
use Rattle.shade_values.specs.Shape.{Shape, plain, vector, array, runtime_array, atomic, structure, exchanged, pointer, Shapes, no_member, member, shape_of, shapes, member_shapes}
use Rattle.shade_values.specs.Layouts.{layout, layouts, stride_of, offset_after, end_after, struct_layout, greatest_size}
use Rattle.shade_values.specs.Sound.{IsSound, AreKnown}
use Rattle.shade_words.specs.Lays.{Lay, leaf, row, fields, Fields, no_field, field}

abbrev mutual
  pub lay_of : Shape → Lay
  lay_of (plain s) = leaf s
  lay_of (vector n s) = row (leaf s) n 1
  lay_of (array element n) = row (lay_of element) n (stride_of (layout element) / 4)
  lay_of (runtime_array element) = row (lay_of element) 1 (stride_of (layout element) / 4)
  lay_of (atomic s) = leaf s
  lay_of (structure members) = fields ((struct_layout (layouts members)).size / 4) (fields_of 0 members)
  lay_of (exchanged s) = fields 2 (field 0 (leaf s) (field 1 (leaf scalar.Bool) no_field))
  lay_of pointer = fields 0 no_field

  -- the members of a struct, when the ones before them end at byte `end`
  pub fields_of : (end : ℕ) → Shapes → Fields
  fields_of end no_member = no_field
  fields_of end (member m ms) =
      field (offset_after end (layout m) / 4) (lay_of m) (fields_of (offset_after end (layout m) + (layout m).size) ms)

-- how the type with an id lies
abbrev pub lay : Table → TypeId → Lay
lay t id = lay_of (shape_of t id)

-- the type with an id
abbrev pub type_of : Table → TypeId → ShadeType
type_of t id = slice_index_or t.types id.0 (type.Plain scalar.Bool)

-- how the members of the struct with a number lie
abbrev pub members_lay : Table → ℕ → Fields
members_lay t number = fields_of 0 (member_shapes (shapes t) (members_at t.structs number))

-- a struct of the table, which is not too large
pub record IsStruct (t : Table) (number : ℕ) : Type 0 where
  pub sound : IsSound t
  pub known : number < length t.structs
  pub members : AreKnown (length t.types) (members_at t.structs number)
  pub small : end_after 0 (layouts (member_shapes (shapes t) (members_at t.structs number))) ≤ greatest_size

-- a type with elements by number
abbrev pub HasElements : ShadeType → Type 0
HasElements (type.Vector n s) = Unit {0}
HasElements (type.Array element n) = Unit {0}
HasElements _ = ⊥

-- a type whose parts have types of the table
abbrev pub HasParts : ShadeType → Type 0
HasParts (type.Array element n) = Unit {0}
HasParts (type.RuntimeArray element) = Unit {0}
HasParts (type.Struct number) = Unit {0}
HasParts _ = ⊥

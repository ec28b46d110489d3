-- Types with their parts spelled out, and the spelling of the types of a table.
use Rattle.std.specs.Prelude.{ℕ, List, [], ◌∷◌, ◌++◌, fold, slice_index_or}
use Rattle.shade_values.specs.declared.types.Scalar.{Scalar}
use Rattle.shade_values.specs.declared.types.ShadeType.{ShadeType}
use Rattle.shade_values.specs.declared.types.ShadeType.TheVariants.{Plain, Vector, Array, RuntimeArray, Atomic, Struct, Exchanged, Pointer}
use Rattle.shade_values.specs.declared.types.TypeId.{TypeId}
use Rattle.shade_values.specs.Table.{Table, StructView, members_at}

-- a type: where `ShadeType` names a part by its id, a shape holds the part itself
mutual
  pub data Shape : Type 0 where
    plain : Scalar → Shape
    vector : ℕ → Scalar → Shape
    array : Shape → ℕ → Shape
    runtime_array : Shape → Shape
    atomic : Scalar → Shape
    structure : Shapes → Shape
    exchanged : Scalar → Shape
    pointer : Shape

  -- the types of a struct's members, in order
  pub data Shapes : Type 0 where
    no_member : Shapes
    member : Shape → Shapes → Shapes

-- the shape at an id, among the shapes of all ids below some number
abbrev pub shape_at : List Shape → TypeId → Shape
shape_at known id = slice_index_or known id.0 pointer

abbrev pub member_shapes : List Shape → List (List ℕ × TypeId) → Shapes
member_shapes known [] = no_member
member_shapes known (m ∷ ms) = member (shape_at known m.1) (member_shapes known ms)

-- a type whose ids all name known shapes
abbrev pub spell : List StructView → List Shape → ShadeType → Shape
spell structs known (Plain scalar) = plain scalar
spell structs known (Vector parts scalar) = vector parts scalar
spell structs known (Array element count) = array (shape_at known element) count
spell structs known (RuntimeArray element) = runtime_array (shape_at known element)
spell structs known (Atomic scalar) = atomic scalar
spell structs known (Struct number) = structure (member_shapes known (members_at structs number))
spell structs known (Exchanged scalar) = exchanged scalar
spell structs known (Pointer space pointee access) = pointer

abbrev pub with_spelling : List StructView → List Shape → ShadeType → List Shape
with_spelling structs known ty = known ++ spell structs known ty ∷ []

-- the shapes of a table's types: each type leads to earlier ones alone
abbrev pub shapes : Table → List Shape
shapes t = fold (with_spelling t.structs) [] t.types

abbrev pub shape_of : Table → TypeId → Shape
shape_of t id = shape_at (shapes t) id

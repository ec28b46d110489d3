-- The values of a type.
use Rattle.std.specs.Prelude.{◌≡◌, List, [], ◌∷◌, map, length, All}
use Rattle.shade_values.specs.declared.types.Scalar.{Scalar}
use Rattle.shade_values.specs.declared.types.Scalar.TheVariants as scalar
use Rattle.shade_values.specs.declared.value.Leaf.{Leaf}
use Rattle.shade_values.specs.declared.value.Value.{Value}
use Rattle.shade_values.specs.declared.value.Value.TheVariants as value
use Rattle.shade_values.specs.Shape.{Shape, plain, vector, array, runtime_array, atomic, structure, exchanged, pointer, Shapes, no_member, member}
use Rattle.shade_values.specs.Numbers.{wrapped}

-- a number in the range of its scalar: to take it into the range changes nothing
abbrev pub IsRanged : Leaf → Type 0
IsRanged leaf = wrapped leaf.scalar leaf.number ≡ leaf.number

abbrev pub IsLeafOf : Scalar → Leaf → Type 0
IsLeafOf s leaf = (leaf.scalar ≡ s) × IsRanged leaf

-- a value with this shape; values of runtime-sized arrays and pointers are never held
abbrev mutual
  pub IsValueOf : Shape → Value → Type 0
  IsValueOf (plain s) v = (leaf : Leaf) × IsLeafOf s leaf × (v ≡ value.One leaf)
  IsValueOf (vector n s) v = (leaves : List Leaf) × (length leaves ≡ n) × All (IsLeafOf s) leaves × (v ≡ value.Many (map value.One leaves))
  IsValueOf (array element n) v = (parts : List Value) × (length parts ≡ n) × All (IsValueOf element) parts × (v ≡ value.Many parts)
  IsValueOf (runtime_array element) v = ⊥
  IsValueOf (atomic s) v = (leaf : Leaf) × IsLeafOf s leaf × (v ≡ value.One leaf)
  IsValueOf (structure members) v = (parts : List Value) × AreValuesOf members parts × (v ≡ value.Many parts)
  IsValueOf (exchanged s) v =
      (old : Leaf) × (flag : Leaf) × IsLeafOf s old × IsLeafOf scalar.Bool flag × (v ≡ value.Many (value.One old ∷ value.One flag ∷ []))
  IsValueOf pointer v = ⊥

  pub AreValuesOf : Shapes → List Value → Type 0
  AreValuesOf no_member parts = parts ≡ []
  AreValuesOf (member m ms) parts = (first : Value) × (rest : List Value) × IsValueOf m first × AreValuesOf ms rest × (parts ≡ first ∷ rest)

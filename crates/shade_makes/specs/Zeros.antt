-- Rule: the zero value of a type. (WGSL, "Zero Value".)
use Rattle.std.specs.Prelude.{List, [], ◌∷◌, replicate, pos}
use Rattle.shade_values.specs.declared.types.Scalar.{Scalar}
use Rattle.shade_values.specs.declared.types.Scalar.TheVariants as scalar
use Rattle.shade_values.specs.declared.value.Value.{Value}
use Rattle.shade_values.specs.declared.value.Value.TheVariants as value
use Rattle.shade_values.specs.Parts.{no_value}
use Rattle.shade_values.specs.Shape.{Shape, plain, vector, array, runtime_array, atomic, structure, exchanged, pointer, Shapes, no_member, member}

abbrev pub zero : Scalar → Value
zero s = value.One (record { scalar = s; number = pos 0 })

-- 0, `false`, and what is made of these; what cannot be loaded has none
abbrev mutual
  pub zero_of : Shape → Value
  zero_of (plain s) = zero s
  zero_of (vector n s) = value.Many (replicate n (zero s))
  zero_of (array element n) = value.Many (replicate n (zero_of element))
  zero_of (runtime_array element) = no_value
  zero_of (atomic s) = no_value
  zero_of (structure members) = value.Many (zeros_of members)
  zero_of (exchanged s) = value.Many (zero s ∷ zero scalar.Bool ∷ [])
  zero_of pointer = no_value

  pub zeros_of : Shapes → List Value
  zeros_of no_member = []
  zeros_of (member m ms) = zero_of m ∷ zeros_of ms

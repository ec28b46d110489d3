-- The parts of values.
use Rattle.std.specs.Prelude.{ℕ, List, [], ◌∷◌, Option, Some, None, map, length, slice_index_or, pos}
use Rattle.shade_values.specs.declared.types.Scalar.TheVariants as scalar
use Rattle.shade_values.specs.declared.value.Leaf.{Leaf}
use Rattle.shade_values.specs.declared.value.Value.{Value, Value-F, out-Value}
use Rattle.shade_values.specs.declared.value.Value.TheOpen.{One, Many}
use Rattle.shade_values.specs.declared.value.Value.TheVariants as value

-- what stands where there is no leaf and no value
abbrev pub no_leaf : Leaf
no_leaf = record { scalar = scalar.Bool; number = pos 0 }

abbrev pub no_value : Value
no_value = value.One no_leaf

abbrev pub leaf_in : Value-F Value → Leaf
leaf_in (One leaf) = leaf
leaf_in (Many parts) = no_leaf

-- the leaf that a scalar value is
abbrev pub own_leaf : Value → Leaf
own_leaf v = leaf_in (out-Value v)

abbrev pub parts_in : Value-F Value → List Value
parts_in (One leaf) = []
parts_in (Many parts) = parts

-- the parts of a vector, an array or a struct
abbrev pub parts_of : Value → List Value
parts_of v = parts_in (out-Value v)

abbrev pub part_at : Value → ℕ → Value
part_at v k = slice_index_or (parts_of v) k no_value

abbrev pub leaves_in : Value-F Value → List Leaf
leaves_in (One leaf) = leaf ∷ []
leaves_in (Many parts) = map own_leaf parts

-- the leaves of a scalar or a vector
abbrev pub leaves_of : Value → List Leaf
leaves_of v = leaves_in (out-Value v)

abbrev pub lane_in : ℕ → Value-F Value → Leaf
lane_in k (One leaf) = leaf
lane_in k (Many parts) = own_leaf (slice_index_or parts k no_value)

-- part k of a vector; a scalar stands for each of its parts
abbrev pub lane : ℕ → Value → Leaf
lane k v = lane_in k (out-Value v)

abbrev pub lanes_in : Value-F Value → Option ℕ → Option ℕ
lanes_in (One leaf) others = others
lanes_in (Many parts) others = Some (length parts)

-- how many parts the vectors among some values have; none where all are scalars
abbrev pub lanes : List Value → Option ℕ
lanes [] = None
lanes (v ∷ vs) = lanes_in (out-Value v) (lanes vs)

-- Rule: which numbers a scalar has, and how AbstractInt becomes another scalar, part by part. (WGSL, "Integer Types" and "Conversion Rank".)
use Rattle.std.specs.Prelude.{ℤ, pos, negsuc, Bool, true, false, not, ◌&&◌, ◌||◌, List, int_le, if◌then◌else◌}
use Rattle.std.specs.List.{list_all}
use Rattle.shade_values.specs.declared.types.Scalar.{Scalar}
use Rattle.shade_values.specs.declared.types.Scalar.TheVariants as scalar
use Rattle.shade_values.specs.declared.value.Leaf.{Leaf}
use Rattle.shade_values.specs.declared.value.Value.{Value, Value-F, fold-Value}
use Rattle.shade_values.specs.declared.value.Value.TheOpen.{One, Many}
use Rattle.shade_values.specs.declared.value.Value.TheVariants as value

-- from -2^31 to 2^31 - 1, from 0 to 2^32 - 1, and from -2^63 to 2^63 - 1; `false` and `true` are 0 and 1
abbrev pub has_number : Scalar → ℤ → Bool
has_number scalar.Bool z = int_le (pos 0) z && int_le z (pos 1)
has_number scalar.I32 z = int_le (negsuc 2147483647) z && int_le z (pos 2147483647)
has_number scalar.U32 z = int_le (pos 0) z && int_le z (pos 4294967295)
has_number scalar.Abstract z = int_le (negsuc 9223372036854775807) z && int_le z (pos 9223372036854775807)

abbrev pub is_abstract : Scalar → Bool
is_abstract scalar.Abstract = true
is_abstract s = false

-- a number of AbstractInt fits a scalar that has it; a number of another scalar stays what it is
abbrev pub leaf_fits : Scalar → Leaf → Bool
leaf_fits to leaf = not (is_abstract leaf.scalar) || has_number to leaf.number

-- it keeps its number
abbrev pub leaf_as : Scalar → Leaf → Leaf
leaf_as to leaf = if is_abstract leaf.scalar then (record { scalar = to; number = leaf.number }) else leaf

abbrev pub fits_by : Scalar → Value-F Bool → Bool
fits_by to (One leaf) = leaf_fits to leaf
fits_by to (Many parts) = list_all (λ fit. fit) parts

-- whether all of a value fits
abbrev pub fits : Scalar → Value → Bool
fits to = fold-Value Bool (fits_by to)

abbrev pub value_by : Scalar → Value-F Value → Value
value_by to (One leaf) = value.One (leaf_as to leaf)
value_by to (Many parts) = value.Many parts

-- the value with its parts of AbstractInt in this scalar
abbrev pub value_as : Scalar → Value → Value
value_as to = fold-Value Value (value_by to)

-- What the table of types is asked, part by part.
use Rattle.std.specs.Prelude.{◌≡◌, ◌≤◌, Some, Contains}
use Rattle.shade_values.specs.declared.types.Scalar.{Scalar}
use Rattle.shade_values.specs.declared.types.ShadeType.{ShadeType}
use Rattle.shade_values.specs.declared.types.ShadeType.TheVariants as type
use Rattle.shade_values.specs.declared.types.TypeId.{TypeId}
use Rattle.shade_values.specs.Table.{Table}
use Rattle.shade_core.specs.Types.{nesting, greatest_nesting, type_at, spelled}

-- no type is nested too deep
abbrev pub AreNested : Table → Type 0
AreNested t = (id : TypeId) (ty : ShadeType) → type_at t id ≡ Some ty → nesting (spelled t ty) ≤ greatest_nesting

-- the scalar stands there where its atomic does
abbrev pub HasScalar : Table → Scalar → Type 0
HasScalar t s = Contains t.types (type.Atomic s) → Contains t.types (type.Plain s)

abbrev pub HasScalars : Table → Type 0
HasScalars t = (s : Scalar) → HasScalar t s

-- Rule: what a call gives, by what is known of its callee. (WGSL, "Function Call Expression", "Value Constructor Built-in Functions".) A built-in
-- function and the constructor of a scalar or a vector are rows of the table, told at the first token of the call.
use Rattle.std.specs.Prelude.{ℕ, Bool, Option, None, Some, slice_get, ◌==◌, if◌then◌else◌}
use Rattle.shade_values.specs.declared.types.Scalar.{Scalar}
use Rattle.shade_values.specs.declared.types.Scalar.TheVariants as scalar
use Rattle.shade_values.specs.declared.types.ShadeType.{ShadeType}
use Rattle.shade_values.specs.declared.types.ShadeType.TheVariants as type
use Rattle.shade_values.specs.Table.{Table}
use Rattle.shade_overload.specs.declared.builtin.Builtin.{Builtin}
use Rattle.shade_overload.specs.declared.builtin.Builtin.TheVariants as builtin
use Rattle.shade_known.specs.declared.known.Generator.{Generator}
use Rattle.shade_known.specs.declared.known.Generator.TheVariants as generator
use Rattle.shade_known.specs.declared.known.What.{What}
use Rattle.shade_known.specs.declared.known.What.TheVariants as what

-- ---- rows of the table

-- `vecN`, with the type that its template list has
abbrev pub vector_builtin : ℕ → Option ShadeType → Option Builtin
vector_builtin n written =
    if n == 2 then Some (builtin.Vec2 written) else if n == 3 then Some (builtin.Vec3 written) else if n == 4 then Some (builtin.Vec4 written) else None

abbrev pub scalar_builtin : Scalar → Option Builtin
scalar_builtin scalar.Bool = Some builtin.Bool
scalar_builtin scalar.I32 = Some builtin.I32
scalar_builtin scalar.U32 = Some builtin.U32
scalar_builtin scalar.Abstract = None

abbrev pub type_builtin : Option ShadeType → Option Builtin
type_builtin (Some (type.Plain s)) = scalar_builtin s
type_builtin (Some (type.Vector n s)) = vector_builtin n (Some (type.Plain s))
type_builtin _ = None

abbrev pub generator_builtin : Generator → Option Builtin
generator_builtin (generator.Vector n) = vector_builtin n None
generator_builtin _ = None

-- the row that a callee is, if it is one
abbrev pub row_of : Table → Option What → Option Builtin
row_of t (Some (what.Builtin b)) = Some b
row_of t (Some (what.Type id bad)) = type_builtin (slice_get t.types id.0)
row_of t (Some (what.Generator g)) = generator_builtin g
row_of t _ = None

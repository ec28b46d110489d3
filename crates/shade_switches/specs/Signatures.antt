-- Rule: the types of parameters and results. (WGSL, "Functions" and "Restrictions on Functions", where pointers may point into all spaces.) A shader may
-- load the values of a result and of a parameter that is no pointer; else the rule of signatures fails, at the type of the result or at the
-- parameter. A pointer parameter is one to what some variable of its space and its access may hold; else the rule of pointers fails at the parameter.
use Rattle.std.specs.Prelude.{Bool, true, false, Option, None, Some, slice_get, Ok, if◌then◌else◌}
use Rattle.shade_base.specs.declared.place.Place.{Place}
use Rattle.shade_values.specs.declared.types.Access.{Access}
use Rattle.shade_values.specs.declared.types.ShadeType.{ShadeType}
use Rattle.shade_values.specs.declared.types.ShadeType.TheVariants as type
use Rattle.shade_values.specs.declared.types.Space.{Space}
use Rattle.shade_values.specs.declared.types.Space.TheVariants as space
use Rattle.shade_values.specs.declared.types.TypeId.{TypeId}
use Rattle.shade_values.specs.Layouts.{is_loadable}
use Rattle.shade_values.specs.Shape.{Shape, shape_of}
use Rattle.shade_values.specs.Table.{Table}
use Rattle.shade_core.specs.Types.{is_constructible}
use Rattle.shade_core.specs.Roots.{space_takes}
use Rattle.shade_known.specs.declared.known.Found.TheVariants as found
use Rattle.shade_known.specs.declared.known.Known.{Known}
use Rattle.shade_known.specs.declared.known.Operand.{Operand}
use Rattle.shade_known.specs.declared.known.What.{What}
use Rattle.shade_known.specs.declared.known.What.TheVariants as what
use Rattle.shade_known.specs.declared.fault.TypeRule.TheVariants as rule
use Rattle.shade_known.specs.Lookups.{what_in}
use Rattle.shade_typing.specs.Values.{Answer, breaks}

-- ---- results

abbrev pub is_loadable_type : Table → Option What → Bool
is_loadable_type t (Some (what.Type id bad)) = is_loadable (shape_of t id)
is_loadable_type t w = false

-- of the type of a result; nothing more is known of it
abbrev pub as_result : Known → Operand → Answer
as_result k ty = if is_loadable_type k.types (what_in k.facts ty.node) then Ok found.Nothing else breaks ty.place rule.Signature

-- ---- parameters

-- whether a variable of this space and access may have this type; a local one has a type whose values a shader may hold
abbrev pub may_hold : Space → Access → Shape → Bool
may_hold space.Function access shape = is_constructible shape
may_hold s access shape = space_takes s access shape

-- a value that no operation makes, and no constant
abbrev pub given : ShadeType → Answer
given ty = Ok (found.Value ty None None)

-- of a pointer type, by whether its access is none of its space
abbrev pub pointer_given : Bool → Bool → ShadeType → Place → Answer
pointer_given true held ty place = breaks place rule.Pointer
pointer_given false true ty place = given ty
pointer_given false false ty place = breaks place rule.Pointer

-- of the type with this id
abbrev pub parameter_of : Table → TypeId → Bool → Option ShadeType → Place → Answer
parameter_of t id bad None place = breaks place rule.Signature
parameter_of t id bad (Some (type.Pointer s pointee access)) place =
    pointer_given bad (may_hold s access (shape_of t pointee)) (type.Pointer s pointee access) place
parameter_of t id bad (Some ty) place = if is_loadable (shape_of t id) then given ty else breaks place rule.Signature

abbrev pub parameter_by : Option What → Table → Place → Answer
parameter_by (Some (what.Type id bad)) t place = parameter_of t id bad (slice_get t.types id.0) place
parameter_by w t place = breaks place rule.Signature

-- of a parameter of this type whose first token stands at this place
abbrev pub parameter_found : Known → Operand → Place → Answer
parameter_found k ty place = parameter_by (what_in k.facts ty.node) k.types place

-- Rule: what assignments ask of their target and their value. (WGSL, "Assignment Statement", "Compound Assignment", "Increment and Decrement
-- Statements".)
use Rattle.std.specs.Prelude.{◌≡◌, Bool, true, false, Option, None, Some, Result, Ok, Err, if◌then◌else◌}
use Rattle.shade_base.specs.declared.place.Place.{Place}
use Rattle.shade_values.specs.declared.types.Access.TheVariants as access
use Rattle.shade_values.specs.declared.types.Scalar.{Scalar}
use Rattle.shade_values.specs.declared.types.Scalar.TheVariants as scalar
use Rattle.shade_values.specs.declared.types.ShadeType.{ShadeType}
use Rattle.shade_values.specs.declared.types.ShadeType.TheVariants as type
use Rattle.shade_values.specs.declared.value.Value.{Value}
use Rattle.shade_known.specs.declared.known.Found.TheVariants as found
use Rattle.shade_known.specs.declared.known.Known.{Known}
use Rattle.shade_known.specs.declared.known.Operand.{Operand}
use Rattle.shade_known.specs.declared.known.What.{What}
use Rattle.shade_known.specs.declared.known.What.TheVariants as what
use Rattle.shade_known.specs.declared.fault.TypingFault.{TypingFault}
use Rattle.shade_known.specs.declared.fault.TypeRule.TheVariants as rule
use Rattle.shade_known.specs.Conversions.{ConvertsTo}
use Rattle.shade_known.specs.Lookups.{what_in, type_of_node}
use Rattle.shade_typing.specs.Values.{Answer, breaks}

-- ---- targets

abbrev pub is_writable : Option What → Bool
is_writable (Some (what.Reference ty space access.ReadWrite part v)) = true
is_writable _ = false

-- a target names memory that may be written
abbrev pub as_target : Known → Operand → Answer
as_target k target = if is_writable (what_in k.facts target.node) then Ok found.Nothing else breaks target.place rule.Target

-- ---- values

abbrev pub checked : Result (Option Value) TypingFault → Answer
checked (Ok v) = Ok found.Nothing
checked (Err f) = Err f

-- a value converts to a type; the fault is that of its conversion
abbrev pub IsConverted : Known → Operand → Option ShadeType → Answer → Type 0
IsConverted k value None r = r ≡ breaks value.place rule.Conversion
IsConverted k value (Some to) r = (c : Result (Option Value) TypingFault) × ConvertsTo k false value to c × (r ≡ checked c)

-- the value converts to the type of the target
abbrev pub IsAssigned : Known → Operand → Operand → Answer → Type 0
IsAssigned k target value = IsConverted k value (type_of_node k target.node)

-- ---- `++` and `--`

abbrev pub is_concrete : Scalar → Bool
is_concrete scalar.I32 = true
is_concrete scalar.U32 = true
is_concrete _ = false

abbrev pub is_number : Option ShadeType → Bool
is_number (Some (type.Plain s)) = is_concrete s
is_number (Some (type.Vector n s)) = is_concrete s
is_number _ = false

-- one is added to numbers, at the place of the operator
abbrev pub as_stepped : Known → Operand → Place → Answer
as_stepped k target at = if is_number (type_of_node k target.node) then Ok found.Nothing else breaks at rule.Overload

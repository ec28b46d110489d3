-- Rule: operators before and between expressions. (WGSL, "Unary Arithmetic Expressions" and the sections behind it, "Address-Of Expression",
-- "Indirection Expression".)
use Rattle.std.specs.Prelude.{◌≡◌, Bool, [], ◌∷◌, Option, None, Some, slice_get, Ok}
use Rattle.shade_base.specs.declared.place.Place.{Place}
use Rattle.shade_ast.specs.declared.expr.Infix.{Infix}
use Rattle.shade_ast.specs.declared.expr.Infix.TheVariants as infix_of
use Rattle.shade_ast.specs.declared.expr.Prefix.{Prefix}
use Rattle.shade_ast.specs.declared.expr.Prefix.TheVariants as prefix_of
use Rattle.shade_values.specs.declared.types.Access.{Access}
use Rattle.shade_values.specs.declared.types.Space.{Space}
use Rattle.shade_values.specs.declared.types.TypeId.{TypeId}
use Rattle.shade_values.specs.declared.types.ShadeType.{ShadeType}
use Rattle.shade_values.specs.declared.types.ShadeType.TheVariants as type
use Rattle.shade_values.specs.Table.{Table}
use Rattle.shade_overload.specs.declared.builtin.Builtin.{Builtin}
use Rattle.shade_overload.specs.declared.builtin.Builtin.TheVariants as builtin
use Rattle.shade_known.specs.declared.known.Found.{Found}
use Rattle.shade_known.specs.declared.known.Found.TheVariants as found
use Rattle.shade_known.specs.declared.known.Known.{Known}
use Rattle.shade_known.specs.declared.known.Operand.{Operand}
use Rattle.shade_known.specs.declared.known.Part.TheVariants as part
use Rattle.shade_known.specs.declared.known.What.{What}
use Rattle.shade_known.specs.declared.known.What.TheVariants as what
use Rattle.shade_known.specs.declared.fault.TypeRule.TheVariants as rule
use Rattle.shade_known.specs.declared.operation.Application.{Application}
use Rattle.shade_known.specs.Lookups.{what_in, type_of_node}
use Rattle.shade_known.specs.Operates.{Operates}
use Rattle.shade_typing.specs.Values.{Answer, breaks, reference_found}

abbrev pub infix_builtin : Infix → Builtin
infix_builtin infix_of.Or = builtin.LogicalOr
infix_builtin infix_of.And = builtin.LogicalAnd
infix_builtin infix_of.BitAnd = builtin.And
infix_builtin infix_of.BitOr = builtin.Or
infix_builtin infix_of.BitXor = builtin.Xor
infix_builtin infix_of.Less = builtin.Less
infix_builtin infix_of.Greater = builtin.Greater
infix_builtin infix_of.LessEqual = builtin.LessEqual
infix_builtin infix_of.GreaterEqual = builtin.GreaterEqual
infix_builtin infix_of.Equal = builtin.Equal
infix_builtin infix_of.NotEqual = builtin.NotEqual
infix_builtin infix_of.ShiftLeft = builtin.ShiftLeft
infix_builtin infix_of.ShiftRight = builtin.ShiftRight
infix_builtin infix_of.Add = builtin.Add
infix_builtin infix_of.Subtract = builtin.Subtract
infix_builtin infix_of.Multiply = builtin.Multiply
infix_builtin infix_of.Divide = builtin.Divide
infix_builtin infix_of.Remainder = builtin.Remainder

abbrev pub applied : Builtin → Place → Bool → Application
applied b at idle = record { builtin = b; at = at; idle = idle }

-- an operator between two values, at its own place
abbrev pub IsInfix : Known → Infix → Place → Bool → Operand → Operand → Answer → Type 0
IsInfix k operator at idle left right = Operates k (applied (infix_builtin operator) at idle) (left ∷ right ∷ [])

-- all of what a pointer points to
abbrev pub pointee_by : Table → Option ShadeType → Place → Answer
pointee_by t (Some (type.Pointer space pointee access)) place = Ok (reference_found (slice_get t.types pointee.0) space access part.Whole None)
pointee_by t _ place = breaks place rule.Indirection

abbrev pub pointer_found : Option ShadeType → Space → TypeId → Access → Found
pointer_found None space ty access = found.Nothing
pointer_found (Some pointee) space ty access = found.Value (type.Pointer space ty access) None None

-- a pointer to what something names, which is no component of a vector
abbrev pub address_by : Table → Option What → Place → Answer
address_by t (Some (what.Reference ty space access part.Whole v)) place = Ok (pointer_found (slice_get t.types ty.0) space ty access)
address_by t (Some (what.Reference ty space access (part.Addressed op) v)) place = Ok (pointer_found (slice_get t.types ty.0) space ty access)
address_by t _ place = breaks place rule.Indirection

-- an operator before an expression, at the place of both
abbrev pub IsPrefix : Known → Prefix → Place → Bool → Operand → Answer → Type 0
IsPrefix k prefix_of.Negate place idle operand r = Operates k (applied builtin.Negate place idle) (operand ∷ []) r
IsPrefix k prefix_of.Not place idle operand r = Operates k (applied builtin.Not place idle) (operand ∷ []) r
IsPrefix k prefix_of.Complement place idle operand r = Operates k (applied builtin.Complement place idle) (operand ∷ []) r
IsPrefix k prefix_of.Deref place idle operand r = r ≡ pointee_by k.types (type_of_node k operand.node) place
IsPrefix k prefix_of.AddressOf place idle operand r = r ≡ address_by k.types (what_in k.facts operand.node) place

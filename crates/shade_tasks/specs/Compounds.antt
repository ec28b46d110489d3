-- Rule: compound assignments. (WGSL, "Compound Assignment".) The operator takes what the target has and the value, and gives the type of the target;
-- where it gives another, the rule of conversions fails at the value. What constants are wrong is told behind all that types are.
use Rattle.std.specs.Prelude.{◌≡◌, ◌⊎◌, true, false, List, [], ◌∷◌, Option, Some, Ok, Err}
use Rattle.shade_base.specs.declared.place.Place.{Place}
use Rattle.shade_ast.specs.declared.stmt.OpAssign.{OpAssign}
use Rattle.shade_ast.specs.declared.stmt.OpAssign.TheVariants as assign
use Rattle.shade_values.specs.declared.types.ShadeType.{ShadeType}
use Rattle.shade_overload.specs.declared.builtin.Builtin.{Builtin}
use Rattle.shade_overload.specs.declared.builtin.Builtin.TheVariants as builtin
use Rattle.shade_known.specs.declared.known.Found.TheVariants as found
use Rattle.shade_known.specs.declared.known.Known.{Known}
use Rattle.shade_known.specs.declared.known.Operand.{Operand}
use Rattle.shade_known.specs.declared.operation.Application.{Application}
use Rattle.shade_known.specs.declared.fault.TypeRule.TheVariants as rule
use Rattle.shade_known.specs.Lookups.{type_of_node}
use Rattle.shade_known.specs.Operates.{Operates}
use Rattle.shade_typing.specs.Values.{Answer, breaks}
use Rattle.shade_typing.specs.Operators.{applied}

abbrev pub compound_builtin : OpAssign → Builtin
compound_builtin assign.Add = builtin.Add
compound_builtin assign.Subtract = builtin.Subtract
compound_builtin assign.Multiply = builtin.Multiply
compound_builtin assign.Divide = builtin.Divide
compound_builtin assign.Remainder = builtin.Remainder
compound_builtin assign.BitAnd = builtin.And
compound_builtin assign.BitOr = builtin.Or
compound_builtin assign.BitXor = builtin.Xor
compound_builtin assign.ShiftLeft = builtin.ShiftLeft
compound_builtin assign.ShiftRight = builtin.ShiftRight

-- by the type that the operator gives, for a target of this type
abbrev pub AfterOperator : Option ShadeType → Operand → Answer → Answer → Type 0
AfterOperator target value (Err f) r = r ≡ Err f
AfterOperator target value (Ok (found.Value ty op v)) r =
    ((target ≡ Some ty) × (r ≡ Ok found.Nothing)) ⊎ ((¬ (target ≡ Some ty)) × (r ≡ breaks value.place rule.Conversion))
AfterOperator target value (Ok f) r = r ≡ Ok found.Nothing

-- nothing is found of an assignment, but what is wrong
abbrev pub unless_fault : Answer → Answer
unless_fault (Ok f) = Ok found.Nothing
unless_fault (Err f) = Err f

-- by what is told of types: where they are right, the operator is asked with its constants
abbrev pub AfterTypes : Answer → Known → Application → List Operand → Answer → Type 0
AfterTypes (Err f) k a operands r = r ≡ Err f
AfterTypes (Ok f) k a operands r = (given : Answer) × Operates k a operands given × (r ≡ unless_fault given)

-- an operator for which nobody asks has a type, and no fault of a constant
abbrev pub IsCompound : Known → OpAssign → Place → Operand → Operand → Answer → Type 0
IsCompound k operator at target value r =
    (typed : Answer) × (told : Answer) × Operates k (applied (compound_builtin operator) at true) (target ∷ value ∷ []) typed
    × AfterOperator (type_of_node k target.node) value typed told
    × AfterTypes told k (applied (compound_builtin operator) at false) (target ∷ value ∷ []) r

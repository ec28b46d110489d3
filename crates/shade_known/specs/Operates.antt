-- Rule: what an operator or a built-in function gives of its operands. (WGSL, "Overload Resolution", "Const-Expressions" and "Short-circuit
-- Evaluation".) An operand that is no value fails the rule of conversions at its place. The row of the table that is nearest to the types
-- decides; where none takes them the rule of overloads fails at the place of the operator or function.
use Rattle.std.specs.Prelude.{◌≡◌, Bool, true, false, List, ◌∷◌, Option, None, Some, map, Result, Ok, Err, if◌then◌else◌}
use Rattle.std.specs.List.{list_any}
use Rattle.shade_base.specs.declared.place.Place.{Place}
use Rattle.shade_values.specs.declared.types.Scalar.{Scalar}
use Rattle.shade_values.specs.declared.types.Scalar.TheVariants as scalar
use Rattle.shade_values.specs.declared.types.ShadeType.{ShadeType}
use Rattle.shade_values.specs.declared.types.ShadeType.TheVariants as type
use Rattle.shade_values.specs.declared.value.Value.{Value}
use Rattle.shade_values.specs.declared.op.Op.{Op}
use Rattle.shade_values.specs.Apply.{Apply}
use Rattle.shade_overload.specs.declared.overload.Overload.{Overload}
use Rattle.shade_overload.specs.Best.{IsBest, IsRefused}
use Rattle.shade_overload.specs.Rows.{IsRow, first_choice}
use Rattle.shade_evaluate.specs.declared.fault.ConstFault.{ConstFault}
use Rattle.shade_evaluate.specs.declared.fault.ConstFault.TheVariants as const_fault
use Rattle.shade_evaluate.specs.Evaluate.{evaluated, meets}
use Rattle.shade_known.specs.declared.known.Operand.{Operand}
use Rattle.shade_known.specs.declared.known.What.{What}
use Rattle.shade_known.specs.declared.known.Known.{Known}
use Rattle.shade_known.specs.declared.known.Found.{Found}
use Rattle.shade_known.specs.declared.known.Found.TheVariants as found
use Rattle.shade_known.specs.declared.operation.Application.{Application}
use Rattle.shade_known.specs.declared.fault.TypingFault.{TypingFault}
use Rattle.shade_known.specs.declared.fault.TypingFault.TheVariants as fault
use Rattle.shade_known.specs.declared.fault.TypeRule.TheVariants as rule
use Rattle.shade_known.specs.Lookups.{first_untyped, types_of, values_of, value_of_node}
use Rattle.shade_known.specs.Conversions.{cut_all}

-- ---- what a row asks and gives

-- what AbstractInt becomes in an argument: the scalar of its parameter, and nothing where it stays
abbrev pub asked_scalar : Scalar → Option Scalar
asked_scalar scalar.I32 = Some scalar.I32
asked_scalar scalar.U32 = Some scalar.U32
asked_scalar s = None

abbrev pub asked_of : ShadeType → Option Scalar
asked_of (type.Plain s) = asked_scalar s
asked_of (type.Vector n s) = asked_scalar s
asked_of ty = None

abbrev pub found_by : Option ShadeType → Option Op → Option Value → Found
found_by None op value = found.Nothing
found_by (Some ty) op value = found.Value ty op value

-- a value of the row's type by its operation, or nothing where the row has no result
abbrev pub found_of : Overload → Option Value → Found
found_of o value = found_by o.result o.op value

-- ---- constants

-- what nobody asks for has no fault: its operands are cut to their bits
abbrev pub value_of : Bool → Op → List (Option Scalar) → List Value → List Place → Place → Result Value ConstFault
value_of true op to values places at = Ok (Apply op (cut_all to values))
value_of false op to values places at = evaluated op to values places at

abbrev pub told : Result Value ConstFault → Result (Option Value) TypingFault
told (Ok v) = Ok (Some v)
told (Err f) = Err (fault.Constant f)

-- what a call answers of an answer about a constant, which may be that there is no memory
abbrev pub answered : Result Value ConstFault → Result (Option Value) TypingFault
answered (Ok v) = Ok (Some v)
answered (Err const_fault.NoMemory) = Err fault.NoMemory
answered (Err f) = Err (fault.Constant f)

abbrev pub value_by : Option Op → Option (List Value) → Bool → List (Option Scalar) → List Place → Place → Result (Option Value) TypingFault
value_by (Some op) (Some values) idle to places at = told (value_of idle op to values places at)
value_by _ _ idle to places at = Ok None

-- the value of a row, where it has an operation and all its operands are constant
abbrev pub row_value : Known → Application → List Operand → Overload → Result (Option Value) TypingFault
row_value k a operands o = value_by o.op (values_of k.facts operands) a.idle (map asked_of o.params) (map (λ x. x.place) operands) a.at

-- ---- what is no constant

abbrev pub is_fit : Option Value → ShadeType → Bool
is_fit None ty = true
is_fit (Some v) ty = meets (asked_of ty) v

-- the place of the first constant that does not fit its parameter
abbrev pub first_unfit : List (Option What) → List Operand → List ShadeType → Option Place
first_unfit facts (o ∷ os) (ty ∷ types) = if is_fit (value_of_node facts o.node) ty then first_unfit facts os types else Some o.place
first_unfit facts _ _ = None

abbrev pub unless_unfit : Option Place → Result Found TypingFault → Result Found TypingFault
unless_unfit None r = r
unless_unfit (Some place) r = Err (fault.Constant (const_fault.Overflow place))

abbrev pub without_value : Bool → List (Option What) → List Operand → Overload → Result Found TypingFault
without_value true facts operands o = Ok (found_of o None)
without_value false facts operands o = unless_unfit (first_unfit facts operands o.params) (Ok (found_of o None))

-- AbstractInt that must become something becomes i32
abbrev pub settled : Scalar → Scalar
settled scalar.Abstract = scalar.I32
settled s = s

abbrev pub concrete : ShadeType → ShadeType
concrete (type.Plain s) = type.Plain (settled s)
concrete (type.Vector n s) = type.Vector n (settled s)
concrete ty = ty

abbrev pub is_abstract_scalar : Scalar → Bool
is_abstract_scalar scalar.Abstract = true
is_abstract_scalar s = false

abbrev pub is_abstract : ShadeType → Bool
is_abstract (type.Plain s) = is_abstract_scalar s
is_abstract (type.Vector n s) = is_abstract_scalar s
is_abstract ty = false

abbrev pub no_overload : Place → Result Found TypingFault
no_overload at = Err (fault.Rule at rule.Overload)

-- AbstractInt stands in constants alone: the row is chosen once more, for types without it
pub data Again (k : Known) (a : Application) (operands : List Operand) : Result Found TypingFault → Type 0 where
  no_row : IsRefused (IsRow k.types a.builtin) (map concrete (types_of k operands)) → Again k a operands (no_overload a.at)
  one_row : (o : Overload) → IsBest (IsRow k.types a.builtin) (first_choice a.builtin) (map concrete (types_of k operands)) o
      → Again k a operands (without_value a.idle k.facts operands o)

abbrev pub ByParams : Bool → Known → Application → List Operand → Overload → Result Found TypingFault → Type 0
ByParams true k a operands o r = Again k a operands r
ByParams false k a operands o r = r ≡ without_value a.idle k.facts operands o

-- ---- the row decides

abbrev pub ByValue : Result (Option Value) TypingFault → Known → Application → List Operand → Overload → Result Found TypingFault → Type 0
ByValue (Ok (Some v)) k a operands o r = r ≡ Ok (found_of o (Some v))
ByValue (Ok None) k a operands o r = ByParams (list_any is_abstract o.params) k a operands o r
ByValue (Err f) k a operands o r = r ≡ Err f

pub data ByTypes (k : Known) (a : Application) (operands : List Operand) : Result Found TypingFault → Type 0 where
  refused : IsRefused (IsRow k.types a.builtin) (types_of k operands) → ByTypes k a operands (no_overload a.at)
  chosen : (o : Overload) (r : Result Found TypingFault) → IsBest (IsRow k.types a.builtin) (first_choice a.builtin) (types_of k operands) o
      → ByValue (row_value k a operands o) k a operands o r → ByTypes k a operands r

-- ---- operands that are no values

abbrev pub no_value : Place → Result Found TypingFault
no_value place = Err (fault.Rule place rule.Conversion)

-- an operand that is no value is told at its place, and else the row
abbrev pub OperatesBy : Option Place → Known → Application → List Operand → Result Found TypingFault → Type 0
OperatesBy (Some place) k a operands r = r ≡ no_value place
OperatesBy None k a operands r = ByTypes k a operands r

abbrev pub Operates : Known → Application → List Operand → Result Found TypingFault → Type 0
Operates k a operands r = OperatesBy (first_untyped k operands) k a operands r

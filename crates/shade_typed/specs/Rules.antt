-- How operations take types, by the rows of operators and built-in functions.
use Rattle.std.specs.Prelude.{◌≡◌, ℕ, ◌==◌, if◌then◌else◌, List, [], ◌∷◌, Option, None, Some, IsTrue}
use Rattle.shade_values.specs.declared.types.Scalar.{Scalar}
use Rattle.shade_values.specs.declared.types.Scalar.TheVariants as scalar
use Rattle.shade_values.specs.declared.types.ShadeType.{ShadeType}
use Rattle.shade_values.specs.declared.types.ShadeType.TheVariants as type
use Rattle.shade_values.specs.declared.op.Op.{Op}
use Rattle.shade_values.specs.declared.op.Op.TheVariants as op
use Rattle.shade_values.specs.Table.{Table}
use Rattle.shade_values.specs.Takes.{Indexed, Made, MemberOf, Swizzled}
use Rattle.shade_overload.specs.declared.builtin.Builtin.{Builtin}
use Rattle.shade_overload.specs.declared.builtin.Builtin.TheVariants as builtin
use Rattle.shade_overload.specs.declared.overload.Overload.{Overload}
use Rattle.shade_overload.specs.Rows.{IsRow}
use Rattle.shade_typed.specs.declared.rule.Rule.{Rule}
use Rattle.shade_typed.specs.declared.rule.Rule.TheVariants as rule
use Rattle.shade_typed.specs.Simple.{is_simple}

abbrev pub vector_rule : ℕ → Scalar → Rule
vector_rule n s =
    if n == 2 then rule.Row (builtin.Vec2 (Some (type.Plain s)))
    else if n == 3 then rule.Row (builtin.Vec3 (Some (type.Plain s)))
    else if n == 4 then rule.Row (builtin.Vec4 (Some (type.Plain s)))
    else rule.Never

abbrev pub bitcast_rule : ℕ → Scalar → Rule
bitcast_rule n s = if n == 1 then rule.Row (builtin.Bitcast (Some (type.Plain s))) else rule.Row (builtin.Bitcast (Some (type.Vector n s)))

-- the operator that an operation is
abbrev pub operator_of : Op → Option Builtin
operator_of op.Add = Some builtin.Add
operator_of op.Subtract = Some builtin.Subtract
operator_of op.Multiply = Some builtin.Multiply
operator_of op.Divide = Some builtin.Divide
operator_of op.Remainder = Some builtin.Remainder
operator_of op.Negate = Some builtin.Negate
operator_of op.Complement = Some builtin.Complement
operator_of op.And = Some builtin.And
operator_of op.Or = Some builtin.Or
operator_of op.Xor = Some builtin.Xor
operator_of op.ShiftLeft = Some builtin.ShiftLeft
operator_of op.ShiftRight = Some builtin.ShiftRight
operator_of op.Equal = Some builtin.Equal
operator_of op.NotEqual = Some builtin.NotEqual
operator_of op.Less = Some builtin.Less
operator_of op.LessEqual = Some builtin.LessEqual
operator_of op.Greater = Some builtin.Greater
operator_of op.GreaterEqual = Some builtin.GreaterEqual
operator_of op.Not = Some builtin.Not
operator_of op.LogicalAnd = Some builtin.LogicalAnd
operator_of op.LogicalOr = Some builtin.LogicalOr
operator_of _ = None

-- the function of values that an operation is
abbrev pub function_of : Op → Option Builtin
function_of op.All = Some builtin.All
function_of op.Any = Some builtin.Any
function_of op.Select = Some builtin.Select
function_of op.Abs = Some builtin.Abs
function_of op.Sign = Some builtin.Sign
function_of op.Min = Some builtin.Min
function_of op.Max = Some builtin.Max
function_of op.Clamp = Some builtin.Clamp
function_of op.Dot = Some builtin.Dot
function_of op.CountOneBits = Some builtin.CountOneBits
function_of op.CountLeadingZeros = Some builtin.CountLeadingZeros
function_of op.CountTrailingZeros = Some builtin.CountTrailingZeros
function_of op.ReverseBits = Some builtin.ReverseBits
function_of op.FirstLeadingBit = Some builtin.FirstLeadingBit
function_of op.FirstTrailingBit = Some builtin.FirstTrailingBit
function_of op.ExtractBits = Some builtin.ExtractBits
function_of op.InsertBits = Some builtin.InsertBits
function_of _ = None

abbrev pub conversion_rule : Scalar → Rule
conversion_rule scalar.I32 = rule.Row builtin.I32
conversion_rule scalar.U32 = rule.Row builtin.U32
conversion_rule scalar.Bool = rule.Row builtin.Bool
conversion_rule scalar.Abstract = rule.Never

abbrev pub other_rule : Op → Rule
other_rule (op.Convert s) = conversion_rule s
other_rule (op.Vector n s) = vector_rule n s
other_rule (op.Make id) = rule.Make id
other_rule (op.Bitcast n s) = bitcast_rule n s
other_rule (op.Member k) = rule.Member k
other_rule op.Index = rule.Index
other_rule (op.Swizzle n letters) = rule.Swizzle n letters
other_rule _ = rule.Never

-- the rows, where there are some
abbrev pub row_or : Option Builtin → Rule → Rule
row_or (Some b) other = rule.Row b
row_or None other = other

abbrev pub rule_of : Op → Rule
rule_of o = row_or (operator_of o) (row_or (function_of o) (other_rule o))

-- an atomic operation as the function that does it
abbrev pub atomic_builtin : Op → Option Builtin
atomic_builtin op.AtomicLoad = Some builtin.AtomicLoad
atomic_builtin op.AtomicStore = Some builtin.AtomicStore
atomic_builtin op.AtomicAdd = Some builtin.AtomicAdd
atomic_builtin op.AtomicSub = Some builtin.AtomicSub
atomic_builtin op.AtomicMax = Some builtin.AtomicMax
atomic_builtin op.AtomicMin = Some builtin.AtomicMin
atomic_builtin op.AtomicAnd = Some builtin.AtomicAnd
atomic_builtin op.AtomicOr = Some builtin.AtomicOr
atomic_builtin op.AtomicXor = Some builtin.AtomicXor
atomic_builtin op.AtomicExchange = Some builtin.AtomicExchange
atomic_builtin op.AtomicCompareExchangeWeak = Some builtin.AtomicCompareExchangeWeak
atomic_builtin _ = None

-- a row takes exactly these types
pub record RowTakes (t : Table) (b : Builtin) (args : List ShadeType) (result : Option ShadeType) : Type 0 where
  pub row : Overload
  pub is : IsRow t b row
  pub params : row.params ≡ args
  pub gives : row.result ≡ result

-- one value with a member
abbrev pub OneMember : Table → ℕ → List ShadeType → ShadeType → Type 0
OneMember t k args ty = (base : ShadeType) × (to : ShadeType) × MemberOf t k base to × (args ≡ base ∷ []) × (Some ty ≡ Some to)

-- what a rule takes and gives
abbrev pub RuleTakes : Table → Rule → List ShadeType → ShadeType → Type 0
RuleTakes t (rule.Row b) args ty = RowTakes t b args (Some ty) × IsTrue (is_simple ty)
RuleTakes t (rule.Make id) args ty = Made t id args (Some ty)
RuleTakes t (rule.Member k) args ty = OneMember t k args ty
RuleTakes t rule.Index args ty = Indexed t args (Some ty)
RuleTakes t (rule.Swizzle n letters) args ty = Swizzled n letters args (Some ty)
RuleTakes t rule.Never args ty = ⊥

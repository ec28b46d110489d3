-- The rows of the table of operators and built-in functions (WGSL, "Expressions" and "Built-in Functions").
use Rattle.std.specs.Prelude.{◌≡◌, ◌≢◌, ℕ, ◌≤◌, [], ◌∷◌, Option, Some, None, All, IsTrue}
use Rattle.shade_values.specs.declared.types.Scalar.{Scalar}
use Rattle.shade_values.specs.declared.types.Scalar.TheVariants as scalar
use Rattle.shade_values.specs.declared.types.ShadeType.{ShadeType}
use Rattle.shade_values.specs.declared.types.ShadeType.TheVariants as type
use Rattle.shade_values.specs.declared.types.TypeId.{TypeId}
use Rattle.shade_values.specs.declared.types.Space.{Space}
use Rattle.shade_values.specs.declared.types.Space.TheVariants as space
use Rattle.shade_values.specs.declared.types.Access.{Access}
use Rattle.shade_values.specs.declared.op.Op.{Op}
use Rattle.shade_values.specs.declared.op.Op.TheVariants as op
use Rattle.shade_values.specs.Table.{Table}
use Rattle.shade_values.specs.Shape.{shape_of}
use Rattle.shade_values.specs.Layouts.{is_loadable}
use Rattle.shade_values.specs.Takes.{Takes, Names}
use Rattle.shade_overload.specs.declared.builtin.Builtin.{Builtin}
use Rattle.shade_overload.specs.declared.builtin.Builtin.TheVariants.{Add, Subtract, Multiply, Divide, Remainder, Negate, Complement, And, Or, Xor, ShiftLeft, ShiftRight, Equal, NotEqual, Less, LessEqual, Greater, GreaterEqual, Not, LogicalAnd, LogicalOr, I32, U32, Bool, Vec2, Vec3, Vec4, Bitcast, All as AllOf, Any, Select, Abs, Sign, Min, Max, Clamp, Dot, CountOneBits, CountLeadingZeros, CountTrailingZeros, ReverseBits, FirstLeadingBit, FirstTrailingBit, ExtractBits, InsertBits, ArrayLength, AtomicLoad, AtomicStore, AtomicAdd, AtomicSub, AtomicMax, AtomicMin, AtomicAnd, AtomicOr, AtomicXor, AtomicExchange, AtomicCompareExchangeWeak, WorkgroupBarrier, StorageBarrier, WorkgroupUniformLoad}
use Rattle.shade_overload.specs.declared.overload.Overload.{Overload}
use Rattle.shade_overload.specs.Conversions.{scalar_of}

-- the operation takes these types and gives this one
abbrev pub Applies : Table → Op → Overload → Type 0
Applies t operation o = (o.op ≡ Some operation) × Takes t operation o.params o.result

-- no AbstractInt
abbrev pub IsKnown : ShadeType → Type 0
IsKnown ty = scalar_of ty ≢ Some scalar.Abstract

-- `i32 u32 bool`: AbstractInt converts before
abbrev pub Converted : Table → Scalar → Overload → Type 0
Converted t s o = Applies t (op.Convert s) o × All IsKnown o.params

-- `vecN<s>`: AbstractInt converts before
abbrev pub Written : Table → ℕ → Scalar → Overload → Type 0
Written t n s o = (s ≢ scalar.Abstract) × Applies t (op.Vector n s) o × All IsKnown o.params

-- `vecN` with no type written: some parts, which have the scalar in common
abbrev pub Common : Table → ℕ → Overload → Type 0
Common t n o = (s : Scalar) × (o.params ≢ []) × All (λ p. scalar_of p ≡ Some s) o.params × Applies t (op.Vector n s) o

abbrev pub VectorRow : Table → ℕ → Option ShadeType → Overload → Type 0
VectorRow t n None o = Common t n o
VectorRow t n (Some (type.Plain s)) o = Written t n s o
VectorRow t n (Some _) o = ⊥

-- `bitcast`: to the type that is written, a scalar or a vector
abbrev pub BitcastRow : Table → Option ShadeType → Overload → Type 0
BitcastRow t (Some (type.Plain s)) o = Applies t (op.Bitcast 1 s) o
BitcastRow t (Some (type.Vector n s)) o = (2 ≤ n) × (n ≤ 4) × Applies t (op.Bitcast n s) o
BitcastRow t _ o = ⊥

abbrev pub LengthRow : Table → Overload → Type 0
LengthRow t o =
    (in_space : Space) × (access : Access) × (id : TypeId) × (element : TypeId) × Names t id (type.RuntimeArray element)
    × (o ≡ record { op = None; params = type.Pointer in_space id access ∷ []; result = Some (type.Plain scalar.U32) })

abbrev pub LoadRow : Table → Overload → Type 0
LoadRow t o =
    (access : Access) × (id : TypeId) × (ty : ShadeType) × Names t id ty × IsTrue (is_loadable (shape_of t id))
    × (o ≡ record { op = None; params = type.Pointer space.Workgroup id access ∷ []; result = Some ty })

abbrev pub BarrierRow : Overload → Type 0
BarrierRow o = o ≡ record { op = None; params = []; result = None }

abbrev pub IsRow : Table → Builtin → Overload → Type 0
IsRow t Add o = Applies t op.Add o
IsRow t Subtract o = Applies t op.Subtract o
IsRow t Multiply o = Applies t op.Multiply o
IsRow t Divide o = Applies t op.Divide o
IsRow t Remainder o = Applies t op.Remainder o
IsRow t Negate o = Applies t op.Negate o
IsRow t Complement o = Applies t op.Complement o
IsRow t And o = Applies t op.And o
IsRow t Or o = Applies t op.Or o
IsRow t Xor o = Applies t op.Xor o
IsRow t ShiftLeft o = Applies t op.ShiftLeft o
IsRow t ShiftRight o = Applies t op.ShiftRight o
IsRow t Equal o = Applies t op.Equal o
IsRow t NotEqual o = Applies t op.NotEqual o
IsRow t Less o = Applies t op.Less o
IsRow t LessEqual o = Applies t op.LessEqual o
IsRow t Greater o = Applies t op.Greater o
IsRow t GreaterEqual o = Applies t op.GreaterEqual o
IsRow t Not o = Applies t op.Not o
IsRow t LogicalAnd o = Applies t op.LogicalAnd o
IsRow t LogicalOr o = Applies t op.LogicalOr o
IsRow t I32 o = Converted t scalar.I32 o
IsRow t U32 o = Converted t scalar.U32 o
IsRow t Bool o = Converted t scalar.Bool o
IsRow t (Vec2 written) o = VectorRow t 2 written o
IsRow t (Vec3 written) o = VectorRow t 3 written o
IsRow t (Vec4 written) o = VectorRow t 4 written o
IsRow t (Bitcast written) o = BitcastRow t written o
IsRow t AllOf o = Applies t op.All o
IsRow t Any o = Applies t op.Any o
IsRow t Select o = Applies t op.Select o
IsRow t Abs o = Applies t op.Abs o
IsRow t Sign o = Applies t op.Sign o
IsRow t Min o = Applies t op.Min o
IsRow t Max o = Applies t op.Max o
IsRow t Clamp o = Applies t op.Clamp o
IsRow t Dot o = Applies t op.Dot o
IsRow t CountOneBits o = Applies t op.CountOneBits o
IsRow t CountLeadingZeros o = Applies t op.CountLeadingZeros o
IsRow t CountTrailingZeros o = Applies t op.CountTrailingZeros o
IsRow t ReverseBits o = Applies t op.ReverseBits o
IsRow t FirstLeadingBit o = Applies t op.FirstLeadingBit o
IsRow t FirstTrailingBit o = Applies t op.FirstTrailingBit o
IsRow t ExtractBits o = Applies t op.ExtractBits o
IsRow t InsertBits o = Applies t op.InsertBits o
IsRow t ArrayLength o = LengthRow t o
IsRow t AtomicLoad o = Applies t op.AtomicLoad o
IsRow t AtomicStore o = Applies t op.AtomicStore o
IsRow t AtomicAdd o = Applies t op.AtomicAdd o
IsRow t AtomicSub o = Applies t op.AtomicSub o
IsRow t AtomicMax o = Applies t op.AtomicMax o
IsRow t AtomicMin o = Applies t op.AtomicMin o
IsRow t AtomicAnd o = Applies t op.AtomicAnd o
IsRow t AtomicOr o = Applies t op.AtomicOr o
IsRow t AtomicXor o = Applies t op.AtomicXor o
IsRow t AtomicExchange o = Applies t op.AtomicExchange o
IsRow t AtomicCompareExchangeWeak o = Applies t op.AtomicCompareExchangeWeak o
IsRow t WorkgroupBarrier o = BarrierRow o
IsRow t StorageBarrier o = BarrierRow o
IsRow t WorkgroupUniformLoad o = LoadRow t o

-- what AbstractInt becomes where it cannot stay: the type that a constructor names, if it can, else i32
abbrev pub written_first : Option ShadeType → Scalar
written_first (Some (type.Plain scalar.U32)) = scalar.U32
written_first _ = scalar.I32

abbrev pub first_choice : Builtin → Scalar
first_choice U32 = scalar.U32
first_choice (Vec2 written) = written_first written
first_choice (Vec3 written) = written_first written
first_choice (Vec4 written) = written_first written
first_choice _ = scalar.I32

-- the barriers
abbrev pub IsBarrier : Builtin → Type 0
IsBarrier WorkgroupBarrier = Unit {0}
IsBarrier StorageBarrier = Unit {0}
IsBarrier _ = ⊥

-- no operation on values or atomics
abbrev pub HasNoOperation : Builtin → Type 0
HasNoOperation WorkgroupUniformLoad = Unit {0}
HasNoOperation ArrayLength = Unit {0}
HasNoOperation builtin = IsBarrier builtin

-- no value
abbrev pub HasNoResult : Builtin → Type 0
HasNoResult AtomicStore = Unit {0}
HasNoResult builtin = IsBarrier builtin

-- What the code keeps of a row of scalars and vectors, and the rows that this stands for. No public clause cites this.
use Rattle.std.specs.Prelude.{◌≡◌, ◌≢◌, ℕ, ◌+◌, ◌≤◌, map, ◌⊎◌, List, [], ◌∷◌, Option, Some, None, slice_get}
use Rattle.shade_values.specs.declared.types.Scalar.{Scalar}
use Rattle.shade_values.specs.declared.types.Scalar.TheVariants as scalar
use Rattle.shade_values.specs.declared.types.ShadeType.{ShadeType}
use Rattle.shade_values.specs.declared.types.ShadeType.TheVariants as type
use Rattle.shade_values.specs.declared.types.TypeId.{TypeId}
use Rattle.shade_values.specs.declared.types.Space.{Space}
use Rattle.shade_values.specs.declared.types.Access.{Access}
use Rattle.shade_values.specs.declared.op.Op.{Op}
use Rattle.shade_values.specs.Takes.{IsAny, IsBool, IsInteger, IsSigned, IsConcrete, formed, Row, one, two, three, tested, truth_of, Arithmetic, Shift, Choice, Atomically, old_value, Names}
use Rattle.shade_overload.specs.declared.pattern.Kind.{Kind}
use Rattle.shade_overload.specs.declared.pattern.Kind.TheVariants as kind
use Rattle.shade_overload.specs.declared.pattern.Pattern.{Pattern}
use Rattle.shade_overload.specs.declared.pattern.Pattern.TheVariants.{Arithmetic as Mixed, Unary, Binary, Comparison, Ternary, Shifted, Truths, Reduction, Selection, Product, Extraction, Insertion, Conversion, Recast}
use Rattle.shade_overload.specs.declared.overload.Overload.{Overload}
use Rattle.shade_values.specs.declared.op.Op.TheVariants as op
use Rattle.shade_values.specs.Table.{Table}
use Rattle.shade_overload.specs.Conversions.{BecomeAll, distance}
use Rattle.shade_overload.specs.declared.builtin.Builtin.{Builtin}
use Rattle.shade_overload.specs.declared.builtin.Builtin.TheVariants.{Add, Subtract, Multiply, Divide, Remainder, Negate, Complement, And, Or, Xor, ShiftLeft, ShiftRight, Equal, NotEqual, Less, LessEqual, Greater, GreaterEqual, Not, LogicalAnd, LogicalOr, I32, U32, Bool, All, Any, Select, Abs, Sign, Min, Max, Clamp, Dot, CountOneBits, CountLeadingZeros, CountTrailingZeros, ReverseBits, FirstLeadingBit, FirstTrailingBit, ExtractBits, InsertBits, AtomicLoad, AtomicStore, AtomicAdd, AtomicSub, AtomicMax, AtomicMin, AtomicAnd, AtomicOr, AtomicXor, AtomicExchange, AtomicCompareExchangeWeak}
use Rattle.shade_overload.specs.declared.memory.Atomics.{Atomics}
use Rattle.shade_overload.specs.declared.memory.Atomics.TheVariants.{Load, Store, Update, Compare}

abbrev pub Fits : Kind → Scalar → Type 0
Fits kind.Any s = IsAny s
Fits kind.Bool s = IsBool s
Fits kind.Integer s = IsInteger s
Fits kind.Signed s = IsSigned s
Fits kind.Concrete s = IsConcrete s
Fits kind.Known s = s ≢ scalar.Abstract

-- the rows of a pattern
abbrev pub PatternRow : Pattern → List ShadeType → Option ShadeType → Type 0
PatternRow Mixed args result = Arithmetic args result
PatternRow (Unary k) args result = Row (Fits k) one formed args result
PatternRow (Binary k) args result = Row (Fits k) two formed args result
PatternRow (Comparison k) args result = Row (Fits k) two tested args result
PatternRow Ternary args result = Row IsInteger three formed args result
PatternRow Shifted args result = Shift args result
PatternRow Truths args result = (args ≡ type.Plain scalar.Bool ∷ type.Plain scalar.Bool ∷ []) × (result ≡ Some (type.Plain scalar.Bool))
PatternRow Reduction args result = Row IsBool one truth_of args result
PatternRow Selection args result = Choice args result
PatternRow Product args result = (n : ℕ) × (s : Scalar) × IsInteger s × (args ≡ type.Vector n s ∷ type.Vector n s ∷ []) × (result ≡ Some (type.Plain s))
PatternRow Extraction args result = Row IsConcrete (λ f s. formed f s ∷ type.Plain scalar.U32 ∷ type.Plain scalar.U32 ∷ []) formed args result
PatternRow Insertion args result = Row IsConcrete (λ f s. formed f s ∷ formed f s ∷ type.Plain scalar.U32 ∷ type.Plain scalar.U32 ∷ []) formed args result
PatternRow (Conversion f to) args result = (s : Scalar) × (s ≢ scalar.Abstract) × (args ≡ formed f s ∷ []) × (result ≡ Some (formed f to))
PatternRow (Recast f to) args result = (s : Scalar) × IsConcrete s × (args ≡ formed f s ∷ []) × (result ≡ Some (formed f to))

-- which scalars, and which forms of the first and the last argument, a pattern has
abbrev pub kind_of : Pattern → Kind
kind_of Mixed = kind.Integer
kind_of (Unary k) = k
kind_of (Binary k) = k
kind_of (Comparison k) = k
kind_of Ternary = kind.Integer
kind_of Shifted = kind.Integer
kind_of Truths = kind.Bool
kind_of Reduction = kind.Bool
kind_of Selection = kind.Any
kind_of Product = kind.Integer
kind_of Extraction = kind.Concrete
kind_of Insertion = kind.Concrete
kind_of (Conversion f to) = kind.Known
kind_of (Recast f to) = kind.Concrete

abbrev pub Allows : Pattern → Option ℕ → Option ℕ → Type 0
Allows Mixed f g = (f ≡ g) ⊎ (f ≡ None) ⊎ (g ≡ None)
Allows Truths f g = f ≡ None
Allows Selection f g = (g ≡ None) ⊎ (g ≡ f)
Allows Product f g = f ≢ None
Allows (Conversion parts to) f g = f ≡ parts
Allows (Recast parts to) f g = f ≡ parts
Allows _ f g = Unit {0}

abbrev pub params_of : Pattern → Option ℕ → Option ℕ → Scalar → List ShadeType
params_of Mixed f g s = formed f s ∷ formed g s ∷ []
params_of (Unary k) f g s = one f s
params_of (Binary k) f g s = two f s
params_of (Comparison k) f g s = two f s
params_of Ternary f g s = three f s
params_of Shifted f g s = formed f s ∷ formed f scalar.U32 ∷ []
params_of Truths f g s = two f s
params_of Reduction f g s = one f s
params_of Selection f g s = formed f s ∷ formed f s ∷ formed g scalar.Bool ∷ []
params_of Product f g s = two f s
params_of Extraction f g s = formed f s ∷ type.Plain scalar.U32 ∷ type.Plain scalar.U32 ∷ []
params_of Insertion f g s = formed f s ∷ formed f s ∷ type.Plain scalar.U32 ∷ type.Plain scalar.U32 ∷ []
params_of (Conversion parts to) f g s = one f s
params_of (Recast parts to) f g s = one f s

-- the vector of the two forms, where one is a vector
abbrev pub wider : Option ℕ → Option ℕ → Option ℕ
wider None g = g
wider (Some n) g = Some n

abbrev pub gives_of : Pattern → Option ℕ → Option ℕ → Scalar → ShadeType
gives_of Mixed f g s = formed (wider f g) s
gives_of (Comparison k) f g s = tested f s
gives_of Reduction f g s = truth_of f s
gives_of Product f g s = type.Plain s
gives_of (Conversion parts to) f g s = formed f to
gives_of (Recast parts to) f g s = formed f to
gives_of _ f g s = formed f s

-- the rows of a pattern, with an operation
abbrev pub PatternRows : Op → Pattern → Overload → Type 0
PatternRows op p o = (o.op ≡ Some op) × PatternRow p o.params o.result

-- what the code makes of one scalar, with the forms of the first and the last argument
abbrev pub made : Op → Pattern → Option ℕ → Option ℕ → Scalar → Overload
made op p f g s = record { op = Some op; params = params_of p f g s; result = Some (gives_of p f g s) }

-- the pattern has the scalar, and the types become its parameters
abbrev pub Suits : Pattern → Option ℕ → Option ℕ → List ShadeType → Scalar → Type 0
Suits p f g types s = Fits (kind_of p) s × BecomeAll types (params_of p f g s)

-- what the code makes of one scalar, if that takes the types
abbrev pub IsAttempt : (Scalar → Overload) → (Scalar → Type 0) → Scalar → Option Overload → Type 0
IsAttempt make Fit s (Some o) = (o ≡ make s) × Fit s
IsAttempt make Fit s None = ¬ Fit s

-- of the scalars that take the types the nearest
pub record IsNearest (make : Scalar → Overload) (Fit : Scalar → Type 0) (first : Scalar) (o : Overload) : Type 0 where
  pub scalar : Scalar
  pub is : o ≡ make scalar
  pub takes : Fit scalar
  pub near : (other : Scalar) → Fit other → distance first scalar ≤ distance first other

abbrev pub IsFound : (Scalar → Overload) → (Scalar → Type 0) → Scalar → Option Overload → Type 0
IsFound make Fit first (Some o) = IsNearest make Fit first o
IsFound make Fit first None = (s : Scalar) → ¬ Fit s

-- the scalars by their distance
abbrev pub by_distance : Scalar → List Scalar
by_distance scalar.U32 = scalar.Abstract ∷ scalar.U32 ∷ scalar.I32 ∷ scalar.Bool ∷ []
by_distance first = scalar.Abstract ∷ scalar.I32 ∷ scalar.U32 ∷ scalar.Bool ∷ []

-- the form of a type, of the first of some types, and of the last
abbrev pub HasForm : ShadeType → Option ℕ → Type 0
HasForm ty f = (s : Scalar) × (ty ≡ formed f s)

abbrev pub BeginsWith : List ShadeType → Option ℕ → Type 0
BeginsWith [] f = ⊥
BeginsWith (ty ∷ types) f = HasForm ty f

abbrev pub EndsIn : List ShadeType → Option ℕ → Type 0
EndsIn [] f = ⊥
EndsIn (ty ∷ []) f = HasForm ty f
EndsIn (ty ∷ types) f = EndsIn types f

-- ---- which rows the code takes for what

abbrev pub operator : Builtin → Option (Op × Pattern)
operator Add = Some (op.Add, Mixed)
operator Subtract = Some (op.Subtract, Mixed)
operator Multiply = Some (op.Multiply, Mixed)
operator Divide = Some (op.Divide, Mixed)
operator Remainder = Some (op.Remainder, Mixed)
operator Negate = Some (op.Negate, Unary kind.Signed)
operator Complement = Some (op.Complement, Unary kind.Integer)
operator And = Some (op.And, Binary kind.Any)
operator Or = Some (op.Or, Binary kind.Any)
operator Xor = Some (op.Xor, Binary kind.Integer)
operator ShiftLeft = Some (op.ShiftLeft, Shifted)
operator ShiftRight = Some (op.ShiftRight, Shifted)
operator Equal = Some (op.Equal, Comparison kind.Any)
operator NotEqual = Some (op.NotEqual, Comparison kind.Any)
operator Less = Some (op.Less, Comparison kind.Integer)
operator LessEqual = Some (op.LessEqual, Comparison kind.Integer)
operator Greater = Some (op.Greater, Comparison kind.Integer)
operator GreaterEqual = Some (op.GreaterEqual, Comparison kind.Integer)
operator Not = Some (op.Not, Unary kind.Bool)
operator LogicalAnd = Some (op.LogicalAnd, Truths)
operator LogicalOr = Some (op.LogicalOr, Truths)
operator _ = None

abbrev pub function : Builtin → Option (Op × Pattern)
function I32 = Some (op.Convert scalar.I32, Conversion None scalar.I32)
function U32 = Some (op.Convert scalar.U32, Conversion None scalar.U32)
function Bool = Some (op.Convert scalar.Bool, Conversion None scalar.Bool)
function All = Some (op.All, Reduction)
function Any = Some (op.Any, Reduction)
function Select = Some (op.Select, Selection)
function Abs = Some (op.Abs, Unary kind.Integer)
function Sign = Some (op.Sign, Unary kind.Signed)
function Min = Some (op.Min, Binary kind.Integer)
function Max = Some (op.Max, Binary kind.Integer)
function Clamp = Some (op.Clamp, Ternary)
function Dot = Some (op.Dot, Product)
function CountOneBits = Some (op.CountOneBits, Unary kind.Concrete)
function CountLeadingZeros = Some (op.CountLeadingZeros, Unary kind.Concrete)
function CountTrailingZeros = Some (op.CountTrailingZeros, Unary kind.Concrete)
function ReverseBits = Some (op.ReverseBits, Unary kind.Concrete)
function FirstLeadingBit = Some (op.FirstLeadingBit, Unary kind.Concrete)
function FirstTrailingBit = Some (op.FirstTrailingBit, Unary kind.Concrete)
function ExtractBits = Some (op.ExtractBits, Extraction)
function InsertBits = Some (op.InsertBits, Insertion)
function _ = None

abbrev pub atomic : Builtin → Option (Op × Atomics)
atomic AtomicLoad = Some (op.AtomicLoad, Load)
atomic AtomicStore = Some (op.AtomicStore, Store)
atomic AtomicAdd = Some (op.AtomicAdd, Update)
atomic AtomicSub = Some (op.AtomicSub, Update)
atomic AtomicMax = Some (op.AtomicMax, Update)
atomic AtomicMin = Some (op.AtomicMin, Update)
atomic AtomicAnd = Some (op.AtomicAnd, Update)
atomic AtomicOr = Some (op.AtomicOr, Update)
atomic AtomicXor = Some (op.AtomicXor, Update)
atomic AtomicExchange = Some (op.AtomicExchange, Update)
atomic AtomicCompareExchangeWeak = Some (op.AtomicCompareExchangeWeak, Compare)
atomic _ = None

-- the values of an atomic operation behind its pointer, and its result
abbrev pub values_of : Atomics → Scalar → List ShadeType
values_of Load s = []
values_of Store s = type.Plain s ∷ []
values_of Update s = type.Plain s ∷ []
values_of Compare s = type.Plain s ∷ type.Plain s ∷ []

abbrev pub given_by : Atomics → Scalar → Option ShadeType
given_by Load s = old_value s
given_by Store s = None
given_by Update s = old_value s
given_by Compare s = Some (type.Exchanged s)

abbrev pub AtomicRows : Table → Op → Atomics → Overload → Type 0
AtomicRows t operation a o = (o.op ≡ Some operation) × Atomically t (values_of a) (given_by a) o.params o.result

-- ---- pointers

-- the first type is this pointer, to that type
pub record PointsTo (t : Table) (types : List ShadeType) (pointer pointee : ShadeType) : Type 0 where
  pub in_space : Space
  pub id : TypeId
  pub access : Access
  pub is : pointer ≡ type.Pointer in_space id access
  pub names : Names t id pointee
  pub first : slice_get types 0 ≡ Some pointer

-- ---- vectors

-- how many parts a scalar or a vector has
abbrev pub parts_of : ShadeType → Option ℕ
parts_of (type.Plain s) = Some 1
parts_of (type.Vector n s) = Some n
parts_of _ = None

-- the types are scalars and vectors of so many parts together
abbrev pub Fill : List ShadeType → ℕ → Type 0
Fill [] total = total ≡ 0
Fill (ty ∷ types) total = (n : ℕ) × (rest : ℕ) × (parts_of ty ≡ Some n) × Fill types rest × (total ≡ n + rest)

abbrev pub IsSingle : List ShadeType → Type 0
IsSingle types = (s : Scalar) × (types ≡ type.Plain s ∷ [])

abbrev pub IsVector : List ShadeType → ℕ → Type 0
IsVector types n = (s : Scalar) × (types ≡ type.Vector n s ∷ [])

-- one scalar for all parts, or so many parts
abbrev pub MakeUp : List ShadeType → ℕ → Type 0
MakeUp types n = IsSingle types ⊎ Fill types n

-- the type with another scalar, where it has one
abbrev pub recast : Scalar → ShadeType → ShadeType
recast s (type.Plain x) = type.Plain s
recast s (type.Vector n x) = type.Vector n s
recast s ty = ty

abbrev pub made_of_parts : ℕ → List ShadeType → Scalar → Overload
made_of_parts n types s = record { op = Some (op.Vector n s); params = map (recast s) types; result = Some (type.Vector n s) }

-- so many parts, or one for all of them, of which each becomes this scalar
abbrev pub ArePartsOf : ℕ → List ShadeType → Scalar → Type 0
ArePartsOf n types s = MakeUp types n × BecomeAll types (map (recast s) types)

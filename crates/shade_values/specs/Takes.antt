-- Which types an operation takes, and the type of its result: the rows of the operation table, with AbstractInt where a row has it.
-- A result is missing where the operation gives no value.
use Rattle.std.specs.Prelude.{◌≡◌, ◌≢◌, ℕ, ◌+◌, ◌<◌, ◌≤◌, ◌⊎◌, List, [], ◌∷◌, map, take, replicate, Option, Some, None, slice_get, All, ◌==◌, if◌then◌else◌}
use Rattle.shade_values.specs.declared.types.Scalar.{Scalar}
use Rattle.shade_values.specs.declared.types.Scalar.TheVariants as scalar
use Rattle.shade_values.specs.declared.types.ShadeType.{ShadeType}
use Rattle.shade_values.specs.declared.types.ShadeType.TheVariants as type
use Rattle.shade_values.specs.declared.types.TypeId.{TypeId}
use Rattle.shade_values.specs.declared.types.Space.{Space}
use Rattle.shade_values.specs.declared.types.Access.{Access}
use Rattle.shade_values.specs.declared.op.Op.{Op}
use Rattle.shade_values.specs.declared.op.Op.TheVariants.{Add, Subtract, Multiply, Divide, Remainder, Negate, Complement, And, Or, Xor, ShiftLeft, ShiftRight, Equal, NotEqual, Less, LessEqual, Greater, GreaterEqual, Not, LogicalAnd, LogicalOr, Convert, Vector, Make, Bitcast, All as AllOf, Any, Select, Abs, Sign, Min, Max, Clamp, Dot, CountOneBits, CountLeadingZeros, CountTrailingZeros, ReverseBits, FirstLeadingBit, FirstTrailingBit, ExtractBits, InsertBits, Member, Index, Swizzle, AtomicLoad, AtomicStore, AtomicAdd, AtomicSub, AtomicMax, AtomicMin, AtomicAnd, AtomicOr, AtomicXor, AtomicExchange, AtomicCompareExchangeWeak}
use Rattle.shade_values.specs.Table.{Table, members_at}

-- ---- scalars

abbrev pub IsAny : Scalar → Type 0
IsAny s = Unit {0}

abbrev pub IsBool : Scalar → Type 0
IsBool s = s ≡ scalar.Bool

abbrev pub IsInteger : Scalar → Type 0
IsInteger s = s ≢ scalar.Bool

abbrev pub IsSigned : Scalar → Type 0
IsSigned s = (s ≡ scalar.I32) ⊎ (s ≡ scalar.Abstract)

abbrev pub IsConcrete : Scalar → Type 0
IsConcrete s = (s ≡ scalar.I32) ⊎ (s ≡ scalar.U32)

-- ---- scalars and vectors alike

-- the scalar type, or the vector of so many parts
abbrev pub formed : Option ℕ → Scalar → ShadeType
formed None s = type.Plain s
formed (Some n) s = type.Vector n s

-- a row of scalars, which vectors of one length take part by part
abbrev pub Row : (Scalar → Type 0) → (Option ℕ → Scalar → List ShadeType) → (Option ℕ → Scalar → ShadeType) → List ShadeType → Option ShadeType → Type 0
Row Fits params gives args result =
    (f : Option ℕ) × (s : Scalar) × Fits s × (args ≡ params f s) × (result ≡ Some (gives f s))

abbrev pub one : Option ℕ → Scalar → List ShadeType
one f s = formed f s ∷ []

abbrev pub two : Option ℕ → Scalar → List ShadeType
two f s = formed f s ∷ formed f s ∷ []

abbrev pub three : Option ℕ → Scalar → List ShadeType
three f s = formed f s ∷ formed f s ∷ formed f s ∷ []

abbrev pub tested : Option ℕ → Scalar → ShadeType
tested f s = formed f scalar.Bool

abbrev pub truth_of : Option ℕ → Scalar → ShadeType
truth_of f s = type.Plain scalar.Bool

-- `+ - * / %`: two alike, or a vector and a scalar
abbrev pub Arithmetic : List ShadeType → Option ShadeType → Type 0
Arithmetic args result =
    Row IsInteger two formed args result
    ⊎ ((n : ℕ) × (s : Scalar) × IsInteger s × ((args ≡ type.Vector n s ∷ type.Plain s ∷ []) ⊎ (args ≡ type.Plain s ∷ type.Vector n s ∷ [])) × (result ≡ Some (type.Vector n s)))

abbrev pub Shift : List ShadeType → Option ShadeType → Type 0
Shift args result = Row IsInteger (λ f s. formed f s ∷ formed f scalar.U32 ∷ []) formed args result

-- the condition is a scalar, or a vector of the values' length
abbrev pub Choice : List ShadeType → Option ShadeType → Type 0
Choice args result =
    (f : Option ℕ) × (g : Option ℕ) × (s : Scalar) × ((g ≡ None) ⊎ (g ≡ f)) × (args ≡ formed f s ∷ formed f s ∷ formed g scalar.Bool ∷ []) × (result ≡ Some (formed f s))

-- ---- constructors and accesses

-- how many parts the arguments of a vector have together, where each is of its scalar
abbrev pub PartsAdd : Scalar → List ShadeType → ℕ → Type 0
PartsAdd s [] total = total ≡ 0
PartsAdd s (arg ∷ args) total =
    (n : ℕ) × (rest : ℕ) × (((arg ≡ type.Plain s) × (n ≡ 1)) ⊎ (arg ≡ type.Vector n s)) × PartsAdd s args rest × (total ≡ n + rest)

-- nothing, one scalar for all parts, parts that make up the vector, or one vector to convert
abbrev pub VectorOf : ℕ → Scalar → List ShadeType → Option ShadeType → Type 0
VectorOf n s args result =
    (2 ≤ n) × (n ≤ 4) × (result ≡ Some (type.Vector n s))
    × ((args ≡ []) ⊎ (args ≡ type.Plain s ∷ []) ⊎ PartsAdd s args n ⊎ ((x : Scalar) × (s ≢ scalar.Abstract) × (args ≡ type.Vector n x ∷ [])))

-- the type at an id
abbrev pub Names : Table → TypeId → ShadeType → Type 0
Names t id ty = slice_get t.types id.0 ≡ Some ty

-- the types at the ids
abbrev pub NamesAll : Table → List TypeId → List ShadeType → Type 0
NamesAll t [] [] = Unit {0}
NamesAll t (id ∷ ids) (ty ∷ types) = Names t id ty × NamesAll t ids types
NamesAll t _ _ = ⊥

abbrev pub PartsOf : Table → ShadeType → List ShadeType → Type 0
PartsOf t (type.Array element count) args = (ty : ShadeType) × Names t element ty × (args ≡ replicate count ty)
PartsOf t (type.Struct number) args = NamesAll t (map (λ m. m.1) (members_at t.structs number)) args
PartsOf t _ args = ⊥

abbrev pub Made : Table → TypeId → List ShadeType → Option ShadeType → Type 0
Made t id args result = (ty : ShadeType) × Names t id ty × PartsOf t ty args × (result ≡ Some ty)

abbrev pub MemberOf : Table → ℕ → ShadeType → ShadeType → Type 0
MemberOf t k (type.Vector n s) result = (k < n) × (result ≡ type.Plain s)
MemberOf t k (type.Struct number) result = (name : List ℕ) × (id : TypeId) × (slice_get (members_at t.structs number) k ≡ Some (name, id)) × Names t id result
MemberOf t k (type.Exchanged s) result = ((k ≡ 0) × (result ≡ type.Plain s)) ⊎ ((k ≡ 1) × (result ≡ type.Plain scalar.Bool))
MemberOf t k _ result = ⊥

abbrev pub ElementOf : Table → ShadeType → ShadeType → Type 0
ElementOf t (type.Vector n s) result = result ≡ type.Plain s
ElementOf t (type.Array element count) result = Names t element result
ElementOf t _ result = ⊥

abbrev pub Indexed : Table → List ShadeType → Option ShadeType → Type 0
Indexed t args result =
    (base : ShadeType) × (s : Scalar) × (ty : ShadeType) × IsInteger s × ElementOf t base ty × (args ≡ base ∷ type.Plain s ∷ []) × (result ≡ Some ty)

abbrev pub Swizzled : ℕ → List ℕ → List ShadeType → Option ShadeType → Type 0
Swizzled n letters args result =
    (m : ℕ) × (s : Scalar) × (2 ≤ n) × (n ≤ 4) × All (λ k. k < m) (take n letters) × (args ≡ type.Vector m s ∷ []) × (result ≡ Some (type.Vector n s))

-- a scalar where there is one part, else a vector
abbrev pub sized : ℕ → Scalar → ShadeType
sized n s = if n == 1 then type.Plain s else type.Vector n s

abbrev pub Reread : ℕ → Scalar → List ShadeType → Option ShadeType → Type 0
Reread n s args result = (x : Scalar) × IsConcrete s × IsConcrete x × (args ≡ sized n x ∷ []) × (result ≡ Some (sized n s))

-- ---- atomics: a pointer to one, and values of its scalar

abbrev pub Atomically : Table → (Scalar → List ShadeType) → (Scalar → Option ShadeType) → List ShadeType → Option ShadeType → Type 0
Atomically t values gives args result =
    (space : Space) × (access : Access) × (id : TypeId) × (s : Scalar)
    × Names t id (type.Atomic s) × (args ≡ type.Pointer space id access ∷ values s) × (result ≡ gives s)

abbrev pub old_value : Scalar → Option ShadeType
old_value s = Some (type.Plain s)

-- ---- the table

abbrev pub Takes : Table → Op → List ShadeType → Option ShadeType → Type 0
Takes t Add args result = Arithmetic args result
Takes t Subtract args result = Arithmetic args result
Takes t Multiply args result = Arithmetic args result
Takes t Divide args result = Arithmetic args result
Takes t Remainder args result = Arithmetic args result
Takes t Negate args result = Row IsSigned one formed args result
Takes t Sign args result = Row IsSigned one formed args result
Takes t Complement args result = Row IsInteger one formed args result
Takes t Abs args result = Row IsInteger one formed args result
Takes t And args result = Row IsAny two formed args result
Takes t Or args result = Row IsAny two formed args result
Takes t Xor args result = Row IsInteger two formed args result
Takes t Min args result = Row IsInteger two formed args result
Takes t Max args result = Row IsInteger two formed args result
Takes t ShiftLeft args result = Shift args result
Takes t ShiftRight args result = Shift args result
Takes t Equal args result = Row IsAny two tested args result
Takes t NotEqual args result = Row IsAny two tested args result
Takes t Less args result = Row IsInteger two tested args result
Takes t LessEqual args result = Row IsInteger two tested args result
Takes t Greater args result = Row IsInteger two tested args result
Takes t GreaterEqual args result = Row IsInteger two tested args result
Takes t Not args result = Row IsBool one formed args result
Takes t LogicalAnd args result = (args ≡ type.Plain scalar.Bool ∷ type.Plain scalar.Bool ∷ []) × (result ≡ Some (type.Plain scalar.Bool))
Takes t LogicalOr args result = (args ≡ type.Plain scalar.Bool ∷ type.Plain scalar.Bool ∷ []) × (result ≡ Some (type.Plain scalar.Bool))
Takes t (Convert s) args result = (x : Scalar) × (s ≢ scalar.Abstract) × (args ≡ type.Plain x ∷ []) × (result ≡ Some (type.Plain s))
Takes t (Vector n s) args result = VectorOf n s args result
Takes t (Make id) args result = Made t id args result
Takes t (Bitcast n s) args result = Reread n s args result
Takes t AllOf args result = Row IsBool one truth_of args result
Takes t Any args result = Row IsBool one truth_of args result
Takes t Select args result = Choice args result
Takes t Clamp args result = Row IsInteger three formed args result
Takes t Dot args result = (n : ℕ) × (s : Scalar) × IsInteger s × (args ≡ type.Vector n s ∷ type.Vector n s ∷ []) × (result ≡ Some (type.Plain s))
Takes t CountOneBits args result = Row IsConcrete one formed args result
Takes t CountLeadingZeros args result = Row IsConcrete one formed args result
Takes t CountTrailingZeros args result = Row IsConcrete one formed args result
Takes t ReverseBits args result = Row IsConcrete one formed args result
Takes t FirstLeadingBit args result = Row IsConcrete one formed args result
Takes t FirstTrailingBit args result = Row IsConcrete one formed args result
Takes t ExtractBits args result = Row IsConcrete (λ f s. formed f s ∷ type.Plain scalar.U32 ∷ type.Plain scalar.U32 ∷ []) formed args result
Takes t InsertBits args result = Row IsConcrete (λ f s. formed f s ∷ formed f s ∷ type.Plain scalar.U32 ∷ type.Plain scalar.U32 ∷ []) formed args result
Takes t (Member k) args result = (base : ShadeType) × (ty : ShadeType) × MemberOf t k base ty × (args ≡ base ∷ []) × (result ≡ Some ty)
Takes t Index args result = Indexed t args result
Takes t (Swizzle n letters) args result = Swizzled n letters args result
Takes t AtomicLoad args result = Atomically t (λ s. []) old_value args result
Takes t AtomicStore args result = Atomically t (λ s. type.Plain s ∷ []) (λ s. None) args result
Takes t AtomicAdd args result = Atomically t (λ s. type.Plain s ∷ []) old_value args result
Takes t AtomicSub args result = Atomically t (λ s. type.Plain s ∷ []) old_value args result
Takes t AtomicMax args result = Atomically t (λ s. type.Plain s ∷ []) old_value args result
Takes t AtomicMin args result = Atomically t (λ s. type.Plain s ∷ []) old_value args result
Takes t AtomicAnd args result = Atomically t (λ s. type.Plain s ∷ []) old_value args result
Takes t AtomicOr args result = Atomically t (λ s. type.Plain s ∷ []) old_value args result
Takes t AtomicXor args result = Atomically t (λ s. type.Plain s ∷ []) old_value args result
Takes t AtomicExchange args result = Atomically t (λ s. type.Plain s ∷ []) old_value args result
Takes t AtomicCompareExchangeWeak args result = Atomically t (λ s. type.Plain s ∷ type.Plain s ∷ []) (λ s. Some (type.Exchanged s)) args result

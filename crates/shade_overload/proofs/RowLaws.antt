-- The rows that the code takes for an operator or a function are those of the table.
use Rattle.std.proofs.Common.{◌≡◌, ◌≢◌, refl, sym, ap, subst, ℕ, List, [], Option, Some, None, ◌↔◌}
use Rattle.std.specs.Prelude.{All, IfSome}
use Rattle.shade_values.specs.declared.types.Scalar.{Scalar}
use Rattle.shade_values.specs.declared.types.Scalar.TheVariants as scalar
use Rattle.shade_values.specs.declared.types.ShadeType.{ShadeType}
use Rattle.shade_values.specs.declared.types.ShadeType.TheVariants as type
use Rattle.shade_values.specs.declared.op.Op.{Op}
use Rattle.shade_values.specs.declared.op.Op.TheVariants as op
use Rattle.shade_values.specs.Table.{Table}
use Rattle.shade_overload.specs.declared.builtin.Builtin.{Builtin}
use Rattle.shade_overload.specs.declared.builtin.Builtin.TheVariants.{Add, I32, U32, Bool, Vec2, Vec3, Vec4, Bitcast, ArrayLength, AtomicLoad, AtomicStore, AtomicAdd, AtomicSub, AtomicMax, AtomicMin, AtomicAnd, AtomicOr, AtomicXor, AtomicExchange, AtomicCompareExchangeWeak, WorkgroupUniformLoad, WorkgroupBarrier, StorageBarrier}
use Rattle.shade_overload.specs.declared.pattern.Pattern.{Pattern}
use Rattle.shade_overload.specs.declared.pattern.Pattern.TheVariants.{Conversion}
use Rattle.shade_overload.specs.declared.memory.Atomics.{Atomics}
use Rattle.shade_overload.specs.declared.overload.Overload.{Overload}
use Rattle.std.specs.Option.{option_or}
use Rattle.shade_overload.specs.Best.{IsChosen}
use Rattle.shade_overload.specs.Rows.{IsRow, IsKnown, Converted, VectorRow, BitcastRow, HasNoResult, first_choice}
use Rattle.shade_overload.specs.Patterns.{PatternRows, AtomicRows, operator, function, atomic}
use Rattle.shade_values.specs.Takes.{Atomically}
use Rattle.shade_overload.proofs.BestLaws.{chosen_within}
use Rattle.shade_overload.proofs.PatternLaws.{spelled}
use Rattle.shade_overload.proofs.VectorLaws.{all_cons, all_nil, all_head}

-- rows that say the same
abbrev pub AreSame : (Overload → Type 0) → (Overload → Type 0) → Type 0
AreSame P Q = (o : Overload) → P o ↔ Q o

converted : (t : Table) (s : Scalar) → s ≢ scalar.Abstract → AreSame (PatternRows (op.Convert s) (Conversion None s)) (Converted t s)
converted t s known o = (
  λ (is, (x, some, args, gives)).
      ((is, (x, known, args, gives)), subst (All IsKnown) (sym args) (all_cons IsKnown (type.Plain x) [] (λ e. some (let same : x ≡ scalar.Abstract = cc in same)) (all_nil IsKnown))),
  λ ((is, (x, known_s, args, gives)), all).
      (is, (x, (λ e. all_head IsKnown (type.Plain x) [] (subst (All IsKnown) args all) (ap (λ y. Some y) e)), args, gives)),
)

abbrev pub OnPattern : Table → Builtin → Option (Op × Pattern) → Type 0
OnPattern t b None = AreSame (IsRow t b) (IsRow t b)
OnPattern t b (Some (o, p)) = AreSame (PatternRows o p) (IsRow t b)

pub operator_is : (t : Table) (b : Builtin) → OnPattern t b (operator b)
operator_is t Add = λ o. (λ h. h, λ h. h)
operator_is t _ = λ o. (λ h. h, λ h. h)

pub function_is : (t : Table) (b : Builtin) → OnPattern t b (function b)
function_is t I32 = converted t scalar.I32 (λ e. absurd (cc))
function_is t U32 = converted t scalar.U32 (λ e. absurd (cc))
function_is t Bool = converted t scalar.Bool (λ e. absurd (cc))
function_is t _ = λ o. (λ h. h, λ h. h)

abbrev pub OnAtomic : Table → Builtin → Option (Op × Atomics) → Type 0
OnAtomic t b None = AreSame (IsRow t b) (IsRow t b) × (scalar.I32 ≡ scalar.I32)
OnAtomic t b (Some (o, a)) = AreSame (AtomicRows t o a) (IsRow t b) × (first_choice b ≡ scalar.I32)

atomic_is : (t : Table) (b : Builtin) → OnAtomic t b (atomic b)
atomic_is t AtomicLoad = (λ o. (λ h. h, λ h. h), refl)
atomic_is t _ = (λ o. (λ h. h, λ h. h), refl)

chosen_along : (P Q : Overload → Type 0) (first : Scalar) (types : List ShadeType) (r : Option Overload) → AreSame P Q → IsChosen P first types r → IsChosen Q first types r
chosen_along P Q first types r alike chosen = chosen_within P Q first types r (λ o p. (alike o).0 p) (λ o q h. (alike o).1 q) chosen

-- the pattern of an operator, or else of a function
pattern_is : (t : Table) (b : Builtin) (x y : Option (Op × Pattern)) (o : Op) (p : Pattern) → OnPattern t b x → OnPattern t b y → option_or x y ≡ Some (o, p) → AreSame (PatternRows o p) (IsRow t b)
pattern_is t b (Some z) y o p h k e = subst (OnPattern t b) e h
pattern_is t b None y o p h k e = subst (OnPattern t b) e k

pub pattern_chosen : (t : Table) (b : Builtin) (o : Op) (p : Pattern) (first : Scalar) (types : List ShadeType) (r : Option Overload) → option_or (operator b) (function b) ≡ Some (o, p)
    → IsChosen (PatternRows o p) first types r → IsChosen (IsRow t b) first types r
pattern_chosen t b o p first types r e = chosen_along (PatternRows o p) (IsRow t b) first types r (pattern_is t b (operator b) (function b) o p (operator_is t b) (function_is t b) e)

pub atomic_chosen : (t : Table) (b : Builtin) (o : Op) (a : Atomics) (types : List ShadeType) (r : Option Overload) → atomic b ≡ Some (o, a)
    → IsChosen (AtomicRows t o a) scalar.I32 types r → IsChosen (IsRow t b) (first_choice b) types r
atomic_chosen t b o a types r e chosen =
    let alike : OnAtomic t b (Some (o, a)) = subst (OnAtomic t b) e (atomic_is t b) in
    subst (λ s. IsChosen (IsRow t b) s types r) (sym alike.1) (chosen_along (AtomicRows t o a) (IsRow t b) scalar.I32 types r alike.0 chosen)

-- ---- what each row gives

some_value : (r : Option ShadeType) (ty : ShadeType) → r ≡ Some ty → (r ≡ None) ↔ ⊥
some_value r ty e = (λ d. (cc), λ f. absurd f)

no_value : (r : Option ShadeType) → r ≡ None → (r ≡ None) ↔ Unit {0}
no_value r e = (λ d. tt, λ t. e)

pattern_value : (o : Op) (p : Pattern) (v : Overload) → PatternRows o p v → (v.result ≡ None) ↔ ⊥
pattern_value o p v row = let q = spelled p v.params v.result row.1 in some_value v.result _ q.result_is

-- of an operator or a function of scalars and vectors, or else nothing
abbrev OnValue : Option (Op × Pattern) → Option ShadeType → Type 0
OnValue None r = Unit {0}
OnValue (Some x) r = (r ≡ None) ↔ ⊥

on_value : (t : Table) (b : Builtin) (x y : Option (Op × Pattern)) (v : Overload) → OnPattern t b x → OnPattern t b y → IsRow t b v → OnValue (option_or x y) v.result
on_value t b (Some (o, p)) y v h k row = pattern_value o p v ((h v).1 row)
on_value t b None (Some (o, p)) v h k row = pattern_value o p v ((k v).1 row)
on_value t b None None v h k row = tt

vector_value : (t : Table) (n : ℕ) (template : Option ShadeType) (v : Overload) → VectorRow t n template v → (v.result ≡ None) ↔ ⊥
vector_value t n None v (s, some, all, (is, takes)) = some_value v.result (type.Vector n _) takes.2
vector_value t n (Some (type.Plain s)) v (known, (is, takes), all) = some_value v.result (type.Vector n _) takes.2
vector_value t n (Some _) v row = absurd row

bitcast_value : (t : Table) (template : Option ShadeType) (v : Overload) → BitcastRow t template v → (v.result ≡ None) ↔ ⊥
bitcast_value t (Some (type.Plain s)) v (is, (x, target, source, args, gives)) = some_value v.result _ gives
bitcast_value t (Some (type.Vector n s)) v (many, few, (is, (x, target, source, args, gives))) = some_value v.result _ gives
bitcast_value t (Some _) v row = absurd row
bitcast_value t None v row = absurd row

atomic_value : (t : Table) (o : Op) (values : Scalar → List ShadeType) (gives : Scalar → ShadeType) (v : Overload) → (v.op ≡ Some o) × Atomically t values (λ s. Some (gives s)) v.params v.result → (v.result ≡ None) ↔ ⊥
atomic_value t o values gives v (is, (in_space, access, id, s, names, args, value)) = some_value v.result (gives s) value

pub has_value : (t : Table) (b : Builtin) (v : Overload) → IsRow t b v → (v.result ≡ None) ↔ HasNoResult b
has_value t (Vec2 template) v row = vector_value t 2 template v row
has_value t (Vec3 template) v row = vector_value t 3 template v row
has_value t (Vec4 template) v row = vector_value t 4 template v row
has_value t (Bitcast template) v row = bitcast_value t template v row
has_value t ArrayLength v (in_space, access, id, element, names, e) = some_value v.result _ (ap (λ x. x.result) e)
has_value t WorkgroupUniformLoad v (access, id, ty, names, loads, e) = some_value v.result ty (ap (λ x. x.result) e)
has_value t WorkgroupBarrier v e = no_value v.result (ap (λ x. x.result) e)
has_value t StorageBarrier v e = no_value v.result (ap (λ x. x.result) e)
has_value t AtomicStore v (is, (in_space, access, id, s, names, args, value)) = no_value v.result value
has_value t AtomicLoad v row = atomic_value t op.AtomicLoad _ type.Plain v row
has_value t AtomicAdd v row = atomic_value t op.AtomicAdd _ type.Plain v row
has_value t AtomicSub v row = atomic_value t op.AtomicSub _ type.Plain v row
has_value t AtomicMax v row = atomic_value t op.AtomicMax _ type.Plain v row
has_value t AtomicMin v row = atomic_value t op.AtomicMin _ type.Plain v row
has_value t AtomicAnd v row = atomic_value t op.AtomicAnd _ type.Plain v row
has_value t AtomicOr v row = atomic_value t op.AtomicOr _ type.Plain v row
has_value t AtomicXor v row = atomic_value t op.AtomicXor _ type.Plain v row
has_value t AtomicExchange v row = atomic_value t op.AtomicExchange _ type.Plain v row
has_value t AtomicCompareExchangeWeak v row = atomic_value t op.AtomicCompareExchangeWeak _ type.Exchanged v row
has_value t b v row = on_value t b (operator b) (function b) v (operator_is t b) (function_is t b) row

pub choice_value : (t : Table) (b : Builtin) (first : Scalar) (types : List ShadeType) (r : Option Overload) → IsChosen (IsRow t b) first types r
    → IfSome r (λ o. (o.result ≡ None) ↔ HasNoResult b)
choice_value t b first types (Some o) best = has_value t b o best.row
choice_value t b first types None none = tt

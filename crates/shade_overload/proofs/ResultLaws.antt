-- The result of a row that takes types of a table is a type of the table.
use Rattle.std.proofs.Common.{◌≡◌, refl, sym, ap, subst, ◌∙◌, ℕ, ◌<◌, ◌≤◌, List, [], ◌∷◌, Option, Some, None, length, arith}
use Rattle.std.specs.Prelude.{All, IfSome, Bool, true, false, ◌==◌, if◌then◌else◌}
use Rattle.std.specs.Option.{option_or}
use Rattle.std.proofs.lemmas.Option.{slice_get_within}
use Rattle.shade_values.specs.declared.types.Scalar.{Scalar}
use Rattle.shade_values.specs.declared.types.Scalar.TheVariants as scalar
use Rattle.shade_values.specs.declared.types.ShadeType.{ShadeType}
use Rattle.shade_values.specs.declared.types.ShadeType.TheVariants as type
use Rattle.shade_values.specs.declared.types.TypeId.{TypeId}
use Rattle.shade_values.specs.declared.op.Op.{Op}
use Rattle.shade_values.specs.declared.op.Op.TheVariants as op
use Rattle.shade_values.specs.Table.{Table, StructView}
use Rattle.shade_values.specs.Sound.{IsSound, IsOver, IsOf}
use Rattle.shade_values.specs.Takes.{formed, sized, Names, Atomically}
use Rattle.shade_overload.specs.declared.builtin.Builtin.{Builtin}
use Rattle.shade_overload.specs.declared.builtin.Builtin.TheVariants.{Vec2, Vec3, Vec4, Bitcast, ArrayLength, AtomicLoad, AtomicStore, AtomicAdd, AtomicSub, AtomicMax, AtomicMin, AtomicAnd, AtomicOr, AtomicXor, AtomicExchange, AtomicCompareExchangeWeak, WorkgroupUniformLoad, WorkgroupBarrier, StorageBarrier}
use Rattle.shade_overload.specs.declared.pattern.Pattern.{Pattern}
use Rattle.shade_overload.specs.declared.pattern.Pattern.TheVariants.{Arithmetic as Mixed, Unary, Binary, Comparison, Ternary, Shifted, Truths, Reduction, Selection, Product, Extraction, Insertion, Conversion, Recast}
use Rattle.shade_overload.specs.declared.overload.Overload.{Overload}
use Rattle.shade_overload.specs.Best.{IsChosen}
use Rattle.shade_overload.specs.Conversions.{Becomes, BecomeAll}
use Rattle.shade_overload.specs.Rows.{IsRow, VectorRow, BitcastRow}
use Rattle.shade_overload.specs.Patterns.{PatternRows, params_of, gives_of, operator, function}
use Rattle.shade_overload.proofs.PatternLaws.{spelled}
use Rattle.shade_overload.proofs.VectorLaws.{all_head, all_tail}
use Rattle.shade_overload.proofs.RowLaws.{OnPattern, operator_is, function_is}

-- a type that a table has is over its ids
over_longer : (m n : ℕ) (structs : List StructView) (ty : ShadeType) → m ≤ n → IsOver m structs ty → IsOver n structs ty
over_longer m n structs (type.Plain s) h over = tt
over_longer m n structs (type.Vector parts s) h over = over
over_longer m n structs (type.Array element count) h over = (omega (arith, over.0, h), over.1)
over_longer m n structs (type.RuntimeArray element) h over = omega (arith, over, h)
over_longer m n structs (type.Atomic s) h over = tt
over_longer m n structs (type.Struct number) h over = (over.0, over.1, λ k d within. omega (arith, over.2 k d within, h))
over_longer m n structs (type.Exchanged s) h over = tt
over_longer m n structs (type.Pointer space pointee access) h over = omega (arith, over, h)

pub named_of : (t : Table) (id : TypeId) (ty : ShadeType) → IsSound t → Names t id ty → IsOf t ty
named_of t id ty sound names =
    let within : id.0 < length t.types = slice_get_within t.types id.0 ty names in
    over_longer id.0 (length t.types) t.structs ty (omega arith) (sound.over id.0 ty names)

-- ---- what types of a table become

param_of : (t : Table) (from to : ShadeType) → IsOf t from → Becomes from to → IsOf t to
param_of t (type.Plain x) (type.Plain y) known h = tt
param_of t (type.Vector m x) (type.Vector n y) known h = subst (λ i. (2 ≤ i) × (i ≤ 4)) h.0 known
param_of t from to known h = subst (IsOf t) h known

abbrev AllOf : Table → List ShadeType → Type 0
AllOf t [] = Unit {0}
AllOf t (ty ∷ types) = IsOf t ty × AllOf t types

params_known : (t : Table) (types params : List ShadeType) → All (IsOf t) types → BecomeAll types params → AllOf t params
params_known t [] [] known h = tt
params_known t (ty ∷ types) (p ∷ params) known h = (param_of t ty p (all_head (IsOf t) ty types known) h.0, params_known t types params (all_tail (IsOf t) ty types known) h.1)
params_known t [] (p ∷ params) known h = absurd h
params_known t (ty ∷ types) [] known h = absurd h

-- ---- what each row gives

some_of : (t : Table) (r : Option ShadeType) (ty : ShadeType) → r ≡ Some ty → IsOf t ty → IfSome r (IsOf t)
some_of t r ty is known = subst (λ x. IfSome x (IsOf t)) (sym is) known

none_of : (t : Table) (r : Option ShadeType) → r ≡ None → IfSome r (IsOf t)
none_of t r is = subst (λ x. IfSome x (IsOf t)) (sym is) tt

-- of the same form
formed_of : (t : Table) (f : Option ℕ) (s x : Scalar) → IsOf t (formed f s) → IsOf t (formed f x)
formed_of t None s x known = tt
formed_of t (Some n) s x known = known

mixed_of : (t : Table) (f g : Option ℕ) (s : Scalar) → AllOf t (params_of Mixed f g s) → IsOf t (gives_of Mixed f g s)
mixed_of t None g s known = known.1.0
mixed_of t (Some n) g s known = known.0

gives_known : (t : Table) (p : Pattern) (f g : Option ℕ) (s : Scalar) → AllOf t (params_of p f g s) → IsOf t (gives_of p f g s)
gives_known t Mixed f g s known = mixed_of t f g s known
gives_known t (Unary k) f g s known = known.0
gives_known t (Binary k) f g s known = known.0
gives_known t (Comparison k) f g s known = formed_of t f s scalar.Bool known.0
gives_known t Ternary f g s known = known.0
gives_known t Shifted f g s known = known.0
gives_known t Truths f g s known = known.0
gives_known t Reduction f g s known = tt
gives_known t Selection f g s known = known.0
gives_known t Product f g s known = tt
gives_known t Extraction f g s known = known.0
gives_known t Insertion f g s known = known.0
gives_known t (Conversion parts to) f g s known = formed_of t f s to known.0
gives_known t (Recast parts to) f g s known = formed_of t f s to known.0

pattern_of : (t : Table) (o : Op) (p : Pattern) (v : Overload) → AllOf t v.params → PatternRows o p v → IfSome v.result (IsOf t)
pattern_of t o p v known row =
    let q = spelled p v.params v.result row.1 in
    some_of t v.result _ q.result_is (gives_known t p q.first q.last q.scalar (subst (AllOf t) q.args_are known))

-- an operator or a function of scalars and vectors; else nothing is said
abbrev OnResult : Table → Option (Op × Pattern) → Option ShadeType → Type 0
OnResult t None r = Unit {0}
OnResult t (Some x) r = IfSome r (IsOf t)

on_result : (t : Table) (b : Builtin) (x y : Option (Op × Pattern)) (v : Overload) → AllOf t v.params → OnPattern t b x → OnPattern t b y → IsRow t b v
    → OnResult t (option_or x y) v.result
on_result t b (Some (o, p)) y v known h k row = pattern_of t o p v known ((h v).1 row)
on_result t b None (Some (o, p)) v known h k row = pattern_of t o p v known ((k v).1 row)
on_result t b None None v known h k row = tt

vector_of : (t : Table) (n : ℕ) (template : Option ShadeType) (v : Overload) → VectorRow t n template v → IfSome v.result (IsOf t)
vector_of t n None v (s, some, all, (is, takes)) = some_of t v.result (type.Vector n s) takes.2 (takes.0, takes.1)
vector_of t n (Some (type.Plain s)) v (known, (is, takes), all) = some_of t v.result (type.Vector n s) takes.2 (takes.0, takes.1)
vector_of t n (Some _) v row = absurd row

either_of : (t : Table) (b : Bool) (x y : ShadeType) → IsOf t x → IsOf t y → IsOf t (if b then x else y)
either_of t true x y h k = h
either_of t false x y h k = k

sized_of : (t : Table) (n : ℕ) (s : Scalar) → 2 ≤ n → n ≤ 4 → IsOf t (sized n s)
sized_of t n s many few = either_of t (n == 1) (type.Plain s) (type.Vector n s) tt (many, few)

bitcast_of : (t : Table) (template : Option ShadeType) (v : Overload) → BitcastRow t template v → IfSome v.result (IsOf t)
bitcast_of t (Some (type.Plain s)) v (is, (x, target, source, args, gives)) = some_of t v.result (type.Plain s) gives tt
bitcast_of t (Some (type.Vector n s)) v (many, few, (is, (x, target, source, args, gives))) = some_of t v.result (sized n s) gives (sized_of t n s many few)
bitcast_of t (Some _) v row = absurd row
bitcast_of t None v row = absurd row

plain_of : (t : Table) (o : Op) (values : Scalar → List ShadeType) (v : Overload) → (v.op ≡ Some o) × Atomically t values (λ s. Some (type.Plain s)) v.params v.result
    → IfSome v.result (IsOf t)
plain_of t o values v (is, (in_space, access, id, s, names, args, gives)) = some_of t v.result (type.Plain s) gives tt

row_of : (t : Table) (b : Builtin) (v : Overload) → AllOf t v.params → (b ≡ WorkgroupUniformLoad → IfSome v.result (IsOf t)) → IsRow t b v → IfSome v.result (IsOf t)
row_of t (Vec2 template) v known loaded row = vector_of t 2 template v row
row_of t (Vec3 template) v known loaded row = vector_of t 3 template v row
row_of t (Vec4 template) v known loaded row = vector_of t 4 template v row
row_of t (Bitcast template) v known loaded row = bitcast_of t template v row
row_of t ArrayLength v known loaded (in_space, access, id, element, names, e) = some_of t v.result _ (ap (λ x. x.result) e) tt
row_of t WorkgroupUniformLoad v known loaded row = loaded refl
row_of t WorkgroupBarrier v known loaded e = none_of t v.result (ap (λ x. x.result) e)
row_of t StorageBarrier v known loaded e = none_of t v.result (ap (λ x. x.result) e)
row_of t AtomicStore v known loaded (is, (in_space, access, id, s, names, args, gives)) = none_of t v.result gives
row_of t AtomicLoad v known loaded row = plain_of t op.AtomicLoad _ v row
row_of t AtomicAdd v known loaded row = plain_of t op.AtomicAdd _ v row
row_of t AtomicSub v known loaded row = plain_of t op.AtomicSub _ v row
row_of t AtomicMax v known loaded row = plain_of t op.AtomicMax _ v row
row_of t AtomicMin v known loaded row = plain_of t op.AtomicMin _ v row
row_of t AtomicAnd v known loaded row = plain_of t op.AtomicAnd _ v row
row_of t AtomicOr v known loaded row = plain_of t op.AtomicOr _ v row
row_of t AtomicXor v known loaded row = plain_of t op.AtomicXor _ v row
row_of t AtomicExchange v known loaded row = plain_of t op.AtomicExchange _ v row
row_of t AtomicCompareExchangeWeak v known loaded (is, (in_space, access, id, s, names, args, gives)) = some_of t v.result (type.Exchanged s) gives tt
row_of t b v known loaded row = on_result t b (operator b) (function b) v known (operator_is t b) (function_is t b) row

-- what is chosen gives a type of the table, if a uniform load does
pub chosen_of : (t : Table) (b : Builtin) (first : Scalar) (types : List ShadeType) (r : Option Overload) → All (IsOf t) types
    → (b ≡ WorkgroupUniformLoad → IfSome r (λ o. IfSome o.result (IsOf t))) → IsChosen (IsRow t b) first types r → IfSome r (λ o. IfSome o.result (IsOf t))
chosen_of t b first types (Some o) known loaded best = row_of t b o (params_known t types o.params known best.taken) loaded best.row
chosen_of t b first types None known loaded none = tt

-- a row that gives a type of the table
pub given_of : (t : Table) (ty : ShadeType) (row : Overload) (r : Option Overload) → row.result ≡ Some ty → IfSome r (λ o. o ≡ row) → IsOf t ty
    → IfSome r (λ o. IfSome o.result (IsOf t))
given_of t ty row (Some o) gives is known = some_of t o.result ty (ap (λ x. x.result) is ∙ gives) known
given_of t ty row None gives is known = tt

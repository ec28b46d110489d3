-- At most one row is best: the parameters decide the row, and their distances the parameters.
use Rattle.std.proofs.Common.{◌≡◌, ◌≢◌, refl, sym, ap, subst, ◌∙◌, ℕ, zero, suc, ◌≤◌, List, [], ◌∷◌, Option, Some, None, arith}
use Rattle.std.specs.Prelude.{All}
use Rattle.std.specs.Option.{option_or}
use Rattle.shade_values.specs.declared.types.Scalar.{Scalar}
use Rattle.shade_values.specs.declared.types.Scalar.TheVariants as scalar
use Rattle.shade_values.specs.declared.types.ShadeType.{ShadeType}
use Rattle.shade_values.specs.declared.types.ShadeType.TheVariants as type
use Rattle.shade_values.specs.declared.op.Op.{Op}
use Rattle.shade_values.specs.declared.op.Op.TheVariants as op
use Rattle.shade_values.specs.Table.{Table}
use Rattle.shade_values.specs.Takes.{formed, Names, Atomically, old_value, Takes}
use Rattle.shade_overload.specs.declared.builtin.Builtin.{Builtin}
use Rattle.shade_overload.specs.declared.builtin.Builtin.TheVariants.{I32, U32, Bool, Vec2, Vec3, Vec4, Bitcast, ArrayLength, AtomicLoad, AtomicStore, AtomicAdd, AtomicSub, AtomicMax, AtomicMin, AtomicAnd, AtomicOr, AtomicXor, AtomicExchange, AtomicCompareExchangeWeak, WorkgroupUniformLoad, WorkgroupBarrier, StorageBarrier}
use Rattle.shade_overload.specs.declared.pattern.Pattern.{Pattern}
use Rattle.shade_overload.specs.declared.pattern.Pattern.TheVariants.{Arithmetic as Mixed, Unary, Binary, Comparison, Ternary, Shifted, Truths, Reduction, Selection, Product, Extraction, Insertion, Conversion, Recast}
use Rattle.shade_overload.specs.declared.overload.Overload.{Overload}
use Rattle.shade_overload.specs.Best.{IsBest}
use Rattle.shade_overload.specs.Conversions.{Becomes, BecomeAll, scalar_of, distance, distance_of, AreNearer}
use Rattle.shade_overload.specs.Rows.{IsRow, Applies, VectorRow, BitcastRow, LoadRow}
use Rattle.shade_overload.specs.Patterns.{PatternRows, params_of, gives_of, wider, operator, function}
use Rattle.shade_overload.proofs.PatternLaws.{spelled}
use Rattle.shade_overload.proofs.VectorLaws.{all_head}
use Rattle.shade_overload.proofs.RowLaws.{OnPattern, operator_is, function_is}

-- ---- the distances decide the parameters

abbrev scalar_at : Scalar → ℕ → Scalar
scalar_at first zero = scalar.Abstract
scalar_at scalar.U32 (suc zero) = scalar.U32
scalar_at scalar.U32 (suc (suc zero)) = scalar.I32
scalar_at first (suc zero) = scalar.I32
scalar_at first (suc (suc zero)) = scalar.U32
scalar_at first _ = scalar.Bool

at_distance : (first s : Scalar) → scalar_at first (distance first s) ≡ s
at_distance scalar.U32 scalar.Abstract = refl
at_distance scalar.U32 scalar.U32 = refl
at_distance scalar.U32 scalar.I32 = refl
at_distance scalar.U32 scalar.Bool = refl
at_distance _ scalar.Abstract = refl
at_distance _ scalar.U32 = refl
at_distance _ scalar.I32 = refl
at_distance _ scalar.Bool = refl

distance_only : (first s x : Scalar) → distance first s ≤ distance first x → distance first x ≤ distance first s → s ≡ x
distance_only first s x h k =
    let same : distance first s ≡ distance first x = omega arith in
    sym (at_distance first s) ∙ ap (scalar_at first) same ∙ at_distance first x

one_head : (first : Scalar) (ty p q : ShadeType) → Becomes ty p → Becomes ty q → distance_of first (scalar_of p) ≤ distance_of first (scalar_of q) → distance_of first (scalar_of q) ≤ distance_of first (scalar_of p) → p ≡ q
one_head first (type.Plain x) (type.Plain y) (type.Plain z) h k a b = ap type.Plain (distance_only first y z a b)
one_head first (type.Vector m x) (type.Vector n y) (type.Vector l z) h k a b = ap (type.Vector n) (distance_only first y z a b) ∙ ap (λ i. type.Vector i z) (sym h.0 ∙ k.0)
one_head first (type.Plain x) (type.Plain y) q h k a b = absurd (cc)
one_head first (type.Plain x) p q h k a b = absurd (cc)
one_head first (type.Vector m x) (type.Vector n y) q h k a b = absurd (cc)
one_head first (type.Vector m x) p q h k a b = absurd (cc)
one_head first (type.Array element count) p q h k a b = sym h ∙ k
one_head first (type.RuntimeArray element) p q h k a b = sym h ∙ k
one_head first (type.Atomic x) p q h k a b = sym h ∙ k
one_head first (type.Struct number) p q h k a b = sym h ∙ k
one_head first (type.Exchanged x) p q h k a b = sym h ∙ k
one_head first (type.Pointer in_space pointee access) p q h k a b = sym h ∙ k

one_list : (first : Scalar) (types ps qs : List ShadeType) → BecomeAll types ps → BecomeAll types qs → AreNearer first ps qs → AreNearer first qs ps → ps ≡ qs
one_list first [] [] [] h k a b = refl
one_list first [] (p ∷ ps) qs h k a b = absurd h
one_list first [] [] (q ∷ qs) h k a b = absurd k
one_list first (ty ∷ types) [] qs h k a b = absurd h
one_list first (ty ∷ types) (p ∷ ps) [] h k a b = absurd k
one_list first (ty ∷ types) (p ∷ ps) (q ∷ qs) h k a b =
    ap (λ x. x ∷ ps) (one_head first ty p q h.0 k.0 a.0 b.0) ∙ ap (λ xs. q ∷ xs) (one_list first types ps qs h.1 k.1 a.1 b.1)

-- ---- the parameters decide the row

overload_is : (o v : Overload) → o.op ≡ v.op → o.params ≡ v.params → o.result ≡ v.result → o ≡ v
overload_is o v a b d = λ i. record { op = a i; params = b i; result = d i }

record IsForm (f g : Option ℕ) (s x : Scalar) : Type 0 where
  pub form : f ≡ g
  pub scalar : s ≡ x

formed_only : (f g : Option ℕ) (s x : Scalar) → formed f s ≡ formed g x → IsForm f g s x
formed_only None None s x e = record { form = refl; scalar = cc }
formed_only None (Some n) s x e = absurd (cc)
formed_only (Some m) None s x e = absurd (cc)
formed_only (Some m) (Some n) s x e = record { form = cc; scalar = cc }

-- what a first parameter decides
by_head : (gives : Option ℕ → Scalar → ShadeType) (f g : Option ℕ) (s x : Scalar) (ps qs : List ShadeType) → formed f s ∷ ps ≡ formed g x ∷ qs → gives f s ≡ gives g x
by_head gives f g s x ps qs e =
    let head : formed f s ≡ formed g x = cc in
    let same = formed_only f g s x head in
    ap (λ h. gives h s) same.form ∙ ap (gives g) same.scalar

gives_mixed : (f g h l : Option ℕ) (s x : Scalar) → formed f s ∷ formed g s ∷ [] ≡ formed h x ∷ formed l x ∷ [] → formed (wider f g) s ≡ formed (wider h l) x
gives_mixed f g h l s x e =
    let head : formed f s ≡ formed h x = cc in
    let last : formed g s ≡ formed l x = cc in
    let same = formed_only f h s x head in
    ap (λ a. formed (wider a g) s) same.form ∙ ap (λ b. formed (wider h b) s) (formed_only g l s x last).form ∙ ap (formed (wider h l)) same.scalar

gives_only : (p : Pattern) (f g h l : Option ℕ) (s x : Scalar) → params_of p f g s ≡ params_of p h l x → gives_of p f g s ≡ gives_of p h l x
gives_only Mixed f g h l s x e = gives_mixed f g h l s x e
gives_only (Unary k) f g h l s x e = by_head formed f h s x _ _ e
gives_only (Binary k) f g h l s x e = by_head formed f h s x _ _ e
gives_only (Comparison k) f g h l s x e = by_head (λ a b. formed a scalar.Bool) f h s x _ _ e
gives_only Ternary f g h l s x e = by_head formed f h s x _ _ e
gives_only Shifted f g h l s x e = by_head formed f h s x _ _ e
gives_only Truths f g h l s x e = by_head formed f h s x _ _ e
gives_only Reduction f g h l s x e = refl
gives_only Selection f g h l s x e = by_head formed f h s x _ _ e
gives_only Product f g h l s x e = by_head (λ a b. type.Plain b) f h s x _ _ e
gives_only Extraction f g h l s x e = by_head formed f h s x _ _ e
gives_only Insertion f g h l s x e = by_head formed f h s x _ _ e
gives_only (Conversion parts to) f g h l s x e = by_head (λ a b. formed a to) f h s x _ _ e
gives_only (Recast parts to) f g h l s x e = by_head (λ a b. formed a to) f h s x _ _ e

pattern_only : (operation : Op) (p : Pattern) (o v : Overload) → PatternRows operation p o → PatternRows operation p v → o.params ≡ v.params → o ≡ v
pattern_only operation p o v row other e =
    let a = spelled p o.params o.result row.1 in
    let b = spelled p v.params v.result other.1 in
    let same = gives_only p a.first a.last b.first b.last a.scalar b.scalar (sym a.args_are ∙ e ∙ b.args_are) in
    overload_is o v (row.0 ∙ sym other.0) e (a.result_is ∙ ap (λ x. Some x) same ∙ sym b.result_is)

abbrev OnOnly : Option (Op × Pattern) → Overload → Overload → Type 0
OnOnly None o v = Unit {0}
OnOnly (Some x) o v = o ≡ v

on_only : (t : Table) (b : Builtin) (x y : Option (Op × Pattern)) (o v : Overload) → OnPattern t b x → OnPattern t b y → IsRow t b o → IsRow t b v → o.params ≡ v.params → OnOnly (option_or x y) o v
on_only t b (Some (operation, p)) y o v h k row other e = pattern_only operation p o v ((h o).1 row) ((h v).1 other) e
on_only t b None (Some (operation, p)) o v h k row other e = pattern_only operation p o v ((k o).1 row) ((k v).1 other) e
on_only t b None None o v h k row other e = tt

atomic_row_only : (t : Table) (operation : Op) (values : Scalar → List ShadeType) (gives : Scalar → Option ShadeType) (o v : Overload)
    → (o.op ≡ Some operation) × Atomically t values gives o.params o.result → (v.op ≡ Some operation) × Atomically t values gives v.params v.result → o.params ≡ v.params → o ≡ v
atomic_row_only t operation values gives o v (is, (in_space, access, id, s, names, args, value)) (is_v, (space_v, access_v, id_v, x, names_v, args_v, value_v)) e =
    let lists : type.Pointer in_space id access ∷ values s ≡ type.Pointer space_v id_v access_v ∷ values x = sym args ∙ e ∙ args_v in
    let same_id : id ≡ id_v = cc in
    let here : Names t id_v (type.Atomic s) = subst (λ i. Names t i (type.Atomic s)) same_id names in
    let same : s ≡ x = cc (here, names_v) in
    overload_is o v (is ∙ sym is_v) e (value ∙ ap gives same ∙ sym value_v)

one_scalar : (ps : List ShadeType) (s x : Scalar) → ps ≢ [] → All (λ p. scalar_of p ≡ Some s) ps → All (λ p. scalar_of p ≡ Some x) ps → s ≡ x
one_scalar [] s x some h k = absurd (some refl)
one_scalar (p ∷ ps) s x some h k =
    let a : scalar_of p ≡ Some s = all_head (λ y. scalar_of y ≡ Some s) p ps h in
    let b : scalar_of p ≡ Some x = all_head (λ y. scalar_of y ≡ Some x) p ps k in
    cc (a, b)

vector_row_only : (t : Table) (n : ℕ) (template : Option ShadeType) (o v : Overload) → VectorRow t n template o → VectorRow t n template v → o.params ≡ v.params → o ≡ v
vector_row_only t n None o v (s, some, all, (is, takes)) (x, some_v, all_v, (is_v, takes_v)) e =
    let same : s ≡ x = one_scalar o.params s x some all (subst (All (λ p. scalar_of p ≡ Some x)) (sym e) all_v) in
    overload_is o v (is ∙ ap (λ y. Some (op.Vector n y)) same ∙ sym is_v) e (takes.2 ∙ ap (λ y. Some (type.Vector n y)) same ∙ sym takes_v.2)
vector_row_only t n (Some (type.Plain s)) o v (known, (is, takes), all) (known_v, (is_v, takes_v), all_v) e = overload_is o v (is ∙ sym is_v) e (takes.2 ∙ sym takes_v.2)
vector_row_only t n (Some _) o v row other e = absurd row

bitcast_row_only : (t : Table) (template : Option ShadeType) (o v : Overload) → BitcastRow t template o → BitcastRow t template v → o.params ≡ v.params → o ≡ v
bitcast_row_only t (Some (type.Plain s)) o v (is, (x, target, source, args, gives)) (is_v, (x_v, target_v, source_v, args_v, gives_v)) e = overload_is o v (is ∙ sym is_v) e (gives ∙ sym gives_v)
bitcast_row_only t (Some (type.Vector n s)) o v (many, few, (is, (x, target, source, args, gives))) (many_v, few_v, (is_v, (x_v, target_v, source_v, args_v, gives_v))) e =
    overload_is o v (is ∙ sym is_v) e (gives ∙ sym gives_v)
bitcast_row_only t (Some _) o v row other e = absurd row
bitcast_row_only t None o v row other e = absurd row

load_row_only : (t : Table) (o v : Overload) → LoadRow t o → LoadRow t v → o.params ≡ v.params → o ≡ v
load_row_only t o v (access, id, ty, names, loads, is) (access_v, id_v, ty_v, names_v, loads_v, is_v) e =
    let a : o.params ≡ _ ∷ [] = ap (λ x. x.params) is in
    let b : v.params ≡ _ ∷ [] = ap (λ x. x.params) is_v in
    let same_id : id ≡ id_v = cc in
    let here : Names t id_v ty = subst (λ i. Names t i ty) same_id names in
    let same : ty ≡ ty_v = cc (here, names_v) in
    overload_is o v (ap (λ x. x.op) is ∙ sym (ap (λ x. x.op) is_v)) e (ap (λ x. x.result) is ∙ ap (λ x. Some x) same ∙ sym (ap (λ x. x.result) is_v))

row_only : (t : Table) (b : Builtin) (o v : Overload) → IsRow t b o → IsRow t b v → o.params ≡ v.params → o ≡ v
row_only t (Vec2 template) o v row other e = vector_row_only t 2 template o v row other e
row_only t (Vec3 template) o v row other e = vector_row_only t 3 template o v row other e
row_only t (Vec4 template) o v row other e = vector_row_only t 4 template o v row other e
row_only t (Bitcast template) o v row other e = bitcast_row_only t template o v row other e
row_only t ArrayLength o v (in_space, access, id, element, names, is) (space_v, access_v, id_v, element_v, names_v, is_v) e =
    overload_is o v (ap (λ x. x.op) is ∙ sym (ap (λ x. x.op) is_v)) e (ap (λ x. x.result) is ∙ sym (ap (λ x. x.result) is_v))
row_only t WorkgroupUniformLoad o v row other e = load_row_only t o v row other e
row_only t WorkgroupBarrier o v is is_v e = is ∙ sym is_v
row_only t StorageBarrier o v is is_v e = is ∙ sym is_v
row_only t AtomicLoad o v row other e = atomic_row_only t op.AtomicLoad _ old_value o v row other e
row_only t AtomicStore o v row other e = atomic_row_only t op.AtomicStore _ (λ s. None) o v row other e
row_only t AtomicAdd o v row other e = atomic_row_only t op.AtomicAdd _ old_value o v row other e
row_only t AtomicSub o v row other e = atomic_row_only t op.AtomicSub _ old_value o v row other e
row_only t AtomicMax o v row other e = atomic_row_only t op.AtomicMax _ old_value o v row other e
row_only t AtomicMin o v row other e = atomic_row_only t op.AtomicMin _ old_value o v row other e
row_only t AtomicAnd o v row other e = atomic_row_only t op.AtomicAnd _ old_value o v row other e
row_only t AtomicOr o v row other e = atomic_row_only t op.AtomicOr _ old_value o v row other e
row_only t AtomicXor o v row other e = atomic_row_only t op.AtomicXor _ old_value o v row other e
row_only t AtomicExchange o v row other e = atomic_row_only t op.AtomicExchange _ old_value o v row other e
row_only t AtomicCompareExchangeWeak o v row other e = atomic_row_only t op.AtomicCompareExchangeWeak _ (λ s. Some (type.Exchanged s)) o v row other e
row_only t b o v row other e = on_only t b (operator b) (function b) o v (operator_is t b) (function_is t b) row other e

pub one_best : (t : Table) (b : Builtin) (first : Scalar) (types : List ShadeType) (o v : Overload) → IsBest (IsRow t b) first types o → IsBest (IsRow t b) first types v → o ≡ v
one_best t b first types o v best other =
    row_only t b o v best.row other.row (one_list first types o.params v.params best.taken other.taken (best.near v other.row other.taken) (other.near o best.row best.taken))

-- ---- operations take their rows

applied : (t : Table) (a operation : Op) (o : Overload) → Applies t a o → o.op ≡ Some operation → Takes t operation o.params o.result
applied t a operation o row e =
    let is : o.op ≡ Some a = row.0 in
    let same : a ≡ operation = cc in
    subst (λ x. Takes t x o.params o.result) same row.1

vector_applied : (t : Table) (n : ℕ) (template : Option ShadeType) (operation : Op) (o : Overload) → VectorRow t n template o → o.op ≡ Some operation → Takes t operation o.params o.result
vector_applied t n None operation o row e = applied t (op.Vector n row.0) operation o row.3 e
vector_applied t n (Some (type.Plain s)) operation o row e = applied t (op.Vector n s) operation o row.1 e
vector_applied t n (Some _) operation o row e = absurd row

bitcast_applied : (t : Table) (template : Option ShadeType) (operation : Op) (o : Overload) → BitcastRow t template o → o.op ≡ Some operation → Takes t operation o.params o.result
bitcast_applied t (Some (type.Plain s)) operation o row e = applied t (op.Bitcast 1 s) operation o row e
bitcast_applied t (Some (type.Vector n s)) operation o row e = applied t (op.Bitcast n s) operation o row.2 e
bitcast_applied t (Some _) operation o row e = absurd row
bitcast_applied t None operation o row e = absurd row

no_operation : (t : Table) (operation : Op) (o : Overload) → o.op ≡ None → o.op ≡ Some operation → Takes t operation o.params o.result
no_operation t operation o is e = absurd (cc)

pub row_taken : (t : Table) (b : Builtin) (o : Overload) (operation : Op) → IsRow t b o → o.op ≡ Some operation → Takes t operation o.params o.result
row_taken t (Vec2 template) o operation row e = vector_applied t 2 template operation o row e
row_taken t (Vec3 template) o operation row e = vector_applied t 3 template operation o row e
row_taken t (Vec4 template) o operation row e = vector_applied t 4 template operation o row e
row_taken t (Bitcast template) o operation row e = bitcast_applied t template operation o row e
row_taken t I32 o operation row e = applied t (op.Convert scalar.I32) operation o row.0 e
row_taken t U32 o operation row e = applied t (op.Convert scalar.U32) operation o row.0 e
row_taken t Bool o operation row e = applied t (op.Convert scalar.Bool) operation o row.0 e
row_taken t ArrayLength o operation (in_space, access, id, element, names, is) e = no_operation t operation o (ap (λ x. x.op) is) e
row_taken t WorkgroupUniformLoad o operation (access, id, ty, names, loads, is) e = no_operation t operation o (ap (λ x. x.op) is) e
row_taken t WorkgroupBarrier o operation is e = no_operation t operation o (ap (λ x. x.op) is) e
row_taken t StorageBarrier o operation is e = no_operation t operation o (ap (λ x. x.op) is) e
row_taken t _ o operation row e = applied t _ operation o row e

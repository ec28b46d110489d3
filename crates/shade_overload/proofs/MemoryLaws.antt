-- The rows over memory: their first argument is a pointer, which decides all.
use Rattle.std.proofs.Common.{◌≡◌, ◌≢◌, refl, sym, ap, subst, ◌∙◌, List, [], ◌∷◌, Option, Some, None, slice_get, false}
use Rattle.std.specs.Prelude.{IsTrue, IfSome, OnSome, IfNone}
use Rattle.shade_values.specs.declared.types.Space.TheVariants as space
use Rattle.shade_values.specs.Shape.{shape_of}
use Rattle.shade_values.specs.Layouts.{is_loadable}
use Rattle.shade_values.specs.declared.types.Scalar.{Scalar}
use Rattle.shade_values.specs.declared.types.Scalar.TheVariants as scalar
use Rattle.shade_values.specs.declared.types.ShadeType.{ShadeType}
use Rattle.shade_values.specs.declared.types.ShadeType.TheVariants as type
use Rattle.shade_values.specs.declared.types.Space.{Space}
use Rattle.shade_values.specs.declared.types.Access.{Access}
use Rattle.shade_values.specs.declared.types.TypeId.{TypeId}
use Rattle.shade_values.specs.declared.op.Op.{Op}
use Rattle.shade_values.specs.Table.{Table}
use Rattle.shade_values.specs.Takes.{Names}
use Rattle.shade_overload.specs.declared.memory.Atomics.{Atomics}
use Rattle.shade_overload.specs.declared.overload.Overload.{Overload}
use Rattle.shade_overload.specs.Best.{IsChosen, IsRefused}
use Rattle.shade_overload.specs.Conversions.{Becomes, BecomeAll}
use Rattle.shade_overload.proofs.BestLaws.{only_chosen}
use Rattle.shade_overload.specs.Rows.{LengthRow, LoadRow, BarrierRow}
use Rattle.shade_overload.specs.Patterns.{AtomicRows, PointsTo, values_of, given_by}

becomes_pointer : (ty : ShadeType) (in_space : Space) (id : TypeId) (access : Access) → Becomes ty (type.Pointer in_space id access) → ty ≡ type.Pointer in_space id access
becomes_pointer (type.Plain s) in_space id access h = h
becomes_pointer (type.Vector n s) in_space id access h = h
becomes_pointer (type.Array element count) in_space id access h = h
becomes_pointer (type.RuntimeArray element) in_space id access h = h
becomes_pointer (type.Atomic s) in_space id access h = h
becomes_pointer (type.Struct number) in_space id access h = h
becomes_pointer (type.Exchanged s) in_space id access h = h
becomes_pointer (type.Pointer other pointee how) in_space id access h = h

pub pointer_first : (types params rest : List ShadeType) (in_space : Space) (id : TypeId) (access : Access)
    → params ≡ type.Pointer in_space id access ∷ rest → BecomeAll types params → slice_get types 0 ≡ Some (type.Pointer in_space id access)
pointer_first [] params rest in_space id access e h = absurd (subst (BecomeAll []) e h)
pointer_first (ty ∷ types) params rest in_space id access e h =
    ap (λ x. Some x) (becomes_pointer ty in_space id access (subst (BecomeAll (ty ∷ types)) e h).0)

-- the pointer and what it points to are those of a row that takes the types
record IsThat (t : Table) (pointer pointee : ShadeType) (in_space : Space) (id : TypeId) (access : Access) : Type 0 where
  pub pointer_is : type.Pointer in_space id access ≡ pointer
  pub names : Names t id pointee

that : (t : Table) (types params rest : List ShadeType) (pointer pointee : ShadeType) (in_space : Space) (id : TypeId) (access : Access) → PointsTo t types pointer pointee
    → params ≡ type.Pointer in_space id access ∷ rest → BecomeAll types params → IsThat t pointer pointee in_space id access
that t types params rest pointer pointee in_space id access points e h =
    let at : slice_get types 0 ≡ Some (type.Pointer in_space id access) = pointer_first types params rest in_space id access e h in
    let first : slice_get types 0 ≡ Some pointer = points.first in
    let is : pointer ≡ type.Pointer points.in_space points.id points.access = points.is in
    let same : points.id ≡ id = cc in
    record { pointer_is = cc; names = subst (λ i. Names t i pointee) same points.names }

-- ---- atomics

pub atomic_none : (t : Table) (op : Op) (a : Atomics) (types : List ShadeType)
    → ((in_space : Space) (id : TypeId) (access : Access) → slice_get types 0 ≢ Some (type.Pointer in_space id access)) → IsRefused (AtomicRows t op a) types
atomic_none t op a types none o (is, (in_space, access, id, s, names, e, d)) h = none in_space id access (pointer_first types o.params (values_of a s) in_space id access e h)

pub atomic_only : (t : Table) (op : Op) (a : Atomics) (types : List ShadeType) (pointer : ShadeType) (s : Scalar) → PointsTo t types pointer (type.Atomic s)
    → (o : Overload) → AtomicRows t op a o → BecomeAll types o.params → o.params ≡ pointer ∷ values_of a s
atomic_only t op a types pointer s points o (is, (in_space, access, id, x, names, e, d)) h =
    let it = that t types o.params (values_of a x) pointer (type.Atomic s) in_space id access points e h in
    let two : Some (type.Atomic s) ≡ Some (type.Atomic x) = sym it.names ∙ names in
    let same : x ≡ s = cc in
    e ∙ ap (λ p. p ∷ values_of a x) it.pointer_is ∙ ap (λ y. pointer ∷ values_of a y) same

pub atomic_row_chosen : (t : Table) (op : Op) (a : Atomics) (types params : List ShadeType) (pointer pointee : ShadeType) (s : Scalar) (result : Option ShadeType) (r : Option Overload)
    → PointsTo t types pointer pointee → pointee ≡ type.Atomic s → params ≡ pointer ∷ values_of a s → result ≡ given_by a s
    → let row : Overload = record { op = Some op; params = params; result = result } in
    IfSome r (λ o. o ≡ row) → OnSome r (BecomeAll types params) → IfNone r (¬ BecomeAll types params) → IsChosen (AtomicRows t op a) scalar.I32 types r
atomic_row_chosen t op a types params pointer pointee s result r points at params_are result_is =
    let row : Overload = record { op = Some op; params = params; result = result } in
    let there : PointsTo t types pointer (type.Atomic s) = subst (PointsTo t types pointer) at points in
    only_chosen (AtomicRows t op a) scalar.I32 types row r
    (refl, (there.in_space, there.access, there.id, s, there.names, params_are ∙ ap (λ p. p ∷ values_of a s) there.is, result_is))
    (λ o w h. atomic_only t op a types pointer s there o w h ∙ sym params_are)

-- ---- the length of an array, and the uniform load

pub length_none : (t : Table) (types : List ShadeType)
    → ((in_space : Space) (id : TypeId) (access : Access) → slice_get types 0 ≢ Some (type.Pointer in_space id access)) → IsRefused (LengthRow t) types
length_none t types none o (in_space, access, id, element, names, e) h = none in_space id access (pointer_first types o.params [] in_space id access (ap (λ x. x.params) e) h)

pub load_none : (t : Table) (types : List ShadeType)
    → ((in_space : Space) (id : TypeId) (access : Access) → slice_get types 0 ≢ Some (type.Pointer in_space id access)) → IsRefused (LoadRow t) types
load_none t types none o (access, id, ty, names, loads, e) h = none _ id access (pointer_first types o.params [] _ id access (ap (λ x. x.params) e) h)

pub barrier_none : (types : List ShadeType) → types ≢ [] → IsRefused BarrierRow types
barrier_none [] some o e h = some refl
barrier_none (ty ∷ types) some o e h = absurd (subst (BecomeAll (ty ∷ types)) (ap (λ x. x.params) e) h)

load_only : (t : Table) (types : List ShadeType) (pointer pointee : ShadeType) → PointsTo t types pointer pointee
    → (o : Overload) → LoadRow t o → BecomeAll types o.params → o.params ≡ pointer ∷ []
load_only t types pointer pointee points o (access, id, ty, names, loads, e) h =
    let is : o.params ≡ type.Pointer space.Workgroup id access ∷ [] = ap (λ x. x.params) e in
    is ∙ ap (λ p. p ∷ []) (that t types o.params [] pointer pointee space.Workgroup id access points is h).pointer_is

-- a row of a pointer alone, which the pointer decides
pub load_chosen : (t : Table) (types params : List ShadeType) (pointer pointee : ShadeType) (in_space : Space) (id : TypeId) (access : Access) (r : Option Overload)
    → PointsTo t types pointer pointee → pointer ≡ type.Pointer in_space id access → in_space ≡ space.Workgroup → IsTrue (is_loadable (shape_of t id)) → params ≡ pointer ∷ []
    → let row : Overload = record { op = None; params = params; result = Some pointee } in
    IfSome r (λ o. o ≡ row) → OnSome r (BecomeAll types params) → IfNone r (¬ BecomeAll types params) → IsChosen (LoadRow t) scalar.I32 types r
load_chosen t types params pointer pointee in_space id access r points is here loads params_are =
    let at : pointer ≡ type.Pointer space.Workgroup id access = is ∙ ap (λ s. type.Pointer s id access) here in
    let same : points.id ≡ id = (let both : type.Pointer points.in_space points.id points.access ≡ type.Pointer space.Workgroup id access = sym points.is ∙ at in cc) in
    only_chosen (LoadRow t) scalar.I32 types (record { op = None; params = params; result = Some pointee }) r
    (access, id, pointee, subst (λ i. Names t i pointee) same points.names, loads, ap (λ p. record { op = None; params = p; result = Some pointee }) (params_are ∙ ap (λ p. p ∷ []) at))
    (λ o w h. load_only t types pointer pointee points o w h ∙ sym params_are)

length_only : (t : Table) (types : List ShadeType) (pointer pointee : ShadeType) → PointsTo t types pointer pointee
    → (o : Overload) → LengthRow t o → BecomeAll types o.params → o.params ≡ pointer ∷ []
length_only t types pointer pointee points o (in_space, access, id, element, names, e) h =
    let is : o.params ≡ type.Pointer in_space id access ∷ [] = ap (λ x. x.params) e in
    is ∙ ap (λ p. p ∷ []) (that t types o.params [] pointer pointee in_space id access points is h).pointer_is

pub length_chosen : (t : Table) (types params : List ShadeType) (pointer pointee : ShadeType) (element : TypeId) (r : Option Overload)
    → PointsTo t types pointer pointee → pointee ≡ type.RuntimeArray element → params ≡ pointer ∷ []
    → let row : Overload = record { op = None; params = params; result = Some (type.Plain scalar.U32) } in
    IfSome r (λ o. o ≡ row) → OnSome r (BecomeAll types params) → IfNone r (¬ BecomeAll types params) → IsChosen (LengthRow t) scalar.I32 types r
length_chosen t types params pointer pointee element r points at params_are =
    only_chosen (LengthRow t) scalar.I32 types (record { op = None; params = params; result = Some (type.Plain scalar.U32) }) r
    (points.in_space, points.access, points.id, element, points.names ∙ ap (λ x. Some x) at, ap (λ p. record { op = None; params = p; result = Some (type.Plain scalar.U32) }) (params_are ∙ ap (λ p. p ∷ []) points.is))
    (λ o w h. length_only t types pointer pointee points o w h ∙ sym params_are)

pub load_unknown : (t : Table) (types : List ShadeType) (pointer pointee : ShadeType) (in_space : Space) (known : TypeId) (access : Access) → PointsTo t types pointer pointee
    → pointer ≡ type.Pointer in_space known access → is_loadable (shape_of t known) ≡ false → IsRefused (LoadRow t) types
load_unknown t types pointer pointee in_space known access points is not o (how, id, ty, names, loads, e) h =
    let at : type.Pointer space.Workgroup id how ≡ pointer = (that t types o.params [] pointer pointee space.Workgroup id how points (ap (λ x. x.params) e) h).pointer_is in
    let same : id ≡ known = cc in
    let no_load : is_loadable (shape_of t id) ≡ false = subst (λ i. is_loadable (shape_of t i) ≡ false) (sym same) not in
    absurd (cc (no_load, loads))

pub load_elsewhere : (t : Table) (types : List ShadeType) (pointer pointee : ShadeType) (in_space : Space) (known : TypeId) (access : Access) → PointsTo t types pointer pointee
    → pointer ≡ type.Pointer in_space known access → in_space ≢ space.Workgroup → IsRefused (LoadRow t) types
load_elsewhere t types pointer pointee in_space known access points is other o (how, id, ty, names, loads, e) h =
    let at : type.Pointer space.Workgroup id how ≡ pointer = (that t types o.params [] pointer pointee space.Workgroup id how points (ap (λ x. x.params) e) h).pointer_is in
    other (cc)

-- Atomic operations, by the functions that do them.
use Rattle.std.proofs.Common.{◌≡◌, refl, sym, ap, subst, ◌∙◌, true, false, List, [], ◌∷◌, Option, Some, None}
use Rattle.std.specs.Prelude.{All, Contains, IfSome, IsTrue}
use Rattle.std.specs.Option.{option_to_list}
use Rattle.std.proofs.lemmas.List.Elements.{All-cons, All-head, All-nil}
use Rattle.shade_values.specs.declared.types.Scalar.{Scalar}
use Rattle.shade_values.specs.declared.types.ShadeType.{ShadeType}
use Rattle.shade_values.specs.declared.types.ShadeType.TheVariants as type
use Rattle.shade_values.specs.declared.types.TypeId.{TypeId}
use Rattle.shade_values.specs.declared.op.Op.{Op}
use Rattle.shade_values.specs.declared.op.Op.TheVariants as op
use Rattle.shade_values.specs.Sound.{IsOf, IsSound}
use Rattle.shade_values.specs.Table.{Table}
use Rattle.shade_values.specs.Takes.{Atomically, Takes, old_value}
use Rattle.shade_overload.specs.Rows.{IsKnown, IsRow}
use Rattle.shade_overload.specs.declared.builtin.Builtin.{Builtin}
use Rattle.shade_overload.specs.declared.builtin.Builtin.TheVariants as builtin
use Rattle.shade_overload.specs.declared.overload.Overload.{Overload}
use Rattle.shade_core.specs.declared.statement.Operand.{Operand}
use Rattle.shade_core.specs.declared.statement.View.{View}
use Rattle.shade_core.specs.Atomics.{is_atomic}
use Rattle.shade_core.specs.Code.{Atomic}
use Rattle.shade_core.specs.Types.{IsHeld, type_at}
use Rattle.shade_core.specs.Views.{Origin}
use Rattle.shade_typed.specs.Answers.{Answers}
use Rattle.shade_typed.specs.Contexts.{ContextView, IsThere}
use Rattle.shade_typed.specs.Places.{HaveTypes, Names}
use Rattle.shade_typed.specs.Rules.{RowTakes, atomic_builtin}
use Rattle.shade_typed.specs.Sets.{FitsPlain, IsGiven}
use Rattle.shade_typed.specs.Simple.{is_simple}
use Rattle.shade_typed.proofs.AnswerLaws.{answers_none, answers_as, holds, nowhere, only, some_same}
use Rattle.shade_typed.proofs.ContextLaws.{within}
use Rattle.shade_typed.proofs.RowLaws.{all_known, all_of}

abbrev pub SimpleIf : Option ShadeType → Type 0
SimpleIf r = IfSome r (λ ty. IsTrue (is_simple ty))

-- an atomic operation, which the rows of a function take alike
pub record AtomicAlike (t : Table) (o : Op) (b : Builtin) (args : List ShadeType) (r : Option ShadeType) : Type 0 where
  pub to : RowTakes t b args r → (is_atomic o ≡ true) × Takes t o args r
  pub from : Takes t o args r → RowTakes t b args r
  pub simple : Takes t o args r → SimpleIf r

abbrev pub OnBuiltin : Table → Op → Option Builtin → Type 0
OnBuiltin t o None = is_atomic o ≡ false
OnBuiltin t o (Some b) = (args : List ShadeType) (r : Option ShadeType) → AtomicAlike t o b args r

direct : (t : Table) (o : Op) (b : Builtin) (args : List ShadeType) (r : Option ShadeType) → is_atomic o ≡ true → ((v : Overload) → IsRow t b v → (v.op ≡ Some o) × Takes t o v.params v.result) → ((v : Overload) → (v.op ≡ Some o) × Takes t o v.params v.result → IsRow t b v) → (Takes t o args r → SimpleIf r)
    → AtomicAlike t o b args r
direct t o b args r is takes rows simple = record {
  to = λ w. (is, subst (λ x. Takes t o args x) w.gives (subst (λ ps. Takes t o ps w.row.result) w.params (takes w.row w.is).1));
  from = λ h. record { row = record { op = Some o; params = args; result = r }; is = rows (record { op = Some o; params = args; result = r }) (refl, h); params = refl; gives = refl };
  simple = simple;
}

of_scalar : (t : Table) (values : Scalar → List ShadeType) (args : List ShadeType) (r : Option ShadeType) → Atomically t values old_value args r → SimpleIf r
of_scalar t values args r h = subst SimpleIf (sym h.6) refl

of_exchange : (t : Table) (values : Scalar → List ShadeType) (args : List ShadeType) (r : Option ShadeType) → Atomically t values (λ s. Some (type.Exchanged s)) args r → SimpleIf r
of_exchange t values args r h = subst SimpleIf (sym h.6) refl

of_nothing : (t : Table) (values : Scalar → List ShadeType) (args : List ShadeType) (r : Option ShadeType) → Atomically t values (λ s. None) args r → SimpleIf r
of_nothing t values args r h = subst SimpleIf (sym h.6) tt

pub on_builtin : (t : Table) (o : Op) → OnBuiltin t o (atomic_builtin o)
on_builtin t op.AtomicLoad = λ args r. direct t op.AtomicLoad builtin.AtomicLoad args r refl (λ v h. h) (λ v h. h) (of_scalar t _ args r)
on_builtin t op.AtomicStore = λ args r. direct t op.AtomicStore builtin.AtomicStore args r refl (λ v h. h) (λ v h. h) (of_nothing t _ args r)
on_builtin t op.AtomicAdd = λ args r. direct t op.AtomicAdd builtin.AtomicAdd args r refl (λ v h. h) (λ v h. h) (of_scalar t _ args r)
on_builtin t op.AtomicSub = λ args r. direct t op.AtomicSub builtin.AtomicSub args r refl (λ v h. h) (λ v h. h) (of_scalar t _ args r)
on_builtin t op.AtomicMax = λ args r. direct t op.AtomicMax builtin.AtomicMax args r refl (λ v h. h) (λ v h. h) (of_scalar t _ args r)
on_builtin t op.AtomicMin = λ args r. direct t op.AtomicMin builtin.AtomicMin args r refl (λ v h. h) (λ v h. h) (of_scalar t _ args r)
on_builtin t op.AtomicAnd = λ args r. direct t op.AtomicAnd builtin.AtomicAnd args r refl (λ v h. h) (λ v h. h) (of_scalar t _ args r)
on_builtin t op.AtomicOr = λ args r. direct t op.AtomicOr builtin.AtomicOr args r refl (λ v h. h) (λ v h. h) (of_scalar t _ args r)
on_builtin t op.AtomicXor = λ args r. direct t op.AtomicXor builtin.AtomicXor args r refl (λ v h. h) (λ v h. h) (of_scalar t _ args r)
on_builtin t op.AtomicExchange = λ args r. direct t op.AtomicExchange builtin.AtomicExchange args r refl (λ v h. h) (λ v h. h) (of_scalar t _ args r)
on_builtin t op.AtomicCompareExchangeWeak = λ args r. direct t op.AtomicCompareExchangeWeak builtin.AtomicCompareExchangeWeak args r refl (λ v h. h) (λ v h. h) (of_exchange t _ args r)
on_builtin t _ = refl

-- what is known of the function that was found
pub no_builtin : (t : Table) (o : Op) → atomic_builtin o ≡ None → is_atomic o ≡ false
no_builtin t o e = subst (OnBuiltin t o) e (on_builtin t o)

pub some_builtin : (t : Table) (o : Op) (b : Builtin) → atomic_builtin o ≡ Some b → OnBuiltin t o (Some b)
some_builtin t o b e = subst (OnBuiltin t o) e (on_builtin t o)

-- ---- the pointer and the values

abbrev pub pointer_to : Origin → TypeId → ShadeType
pointer_to o id = type.Pointer o.space id o.access

pub pointer_of : (t : Table) (o : Origin) (id : TypeId) (types : List ShadeType) → IsSound t → type_at t id ≡ Some o.type → All (IsHeld t) types → All (IsOf t) (pointer_to o id ∷ types)
pointer_of t o id types sound at held = All-cons (IsOf t) (pointer_to o id) types (within t id o.type at) (all_of t types sound held)

pub pointer_known : (t : Table) (o : Origin) (id : TypeId) (types : List ShadeType) → All (IsHeld t) types → All IsKnown (pointer_to o id ∷ types)
pointer_known t o id types held = All-cons IsKnown (pointer_to o id) types (λ e. cc) (all_known t types held)

-- ---- what is given

pub given_nothing : (t : Table) → Answers (IsGiven t None) (Some None)
given_nothing t r = (λ h. ap Some h.0, λ e. (some_same None r e, subst (λ x. All (Contains t.types) (option_to_list x)) (some_same None r e) (All-nil (Contains t.types))))

pub given_none : (t : Table) (ty : ShadeType) → Answers (IsThere t ty) None → Answers (IsGiven t (Some ty)) None
given_none t ty none = answers_none (IsGiven t (Some ty)) (λ r h.
    nowhere (IsThere t ty) ty none (refl, All-head (Contains t.types) ty [] (subst (λ x. All (Contains t.types) (option_to_list x)) (sym h.0) h.1)))

pub given_some : (t : Table) (ty found : ShadeType) → Answers (IsThere t ty) (Some found) → Answers (IsGiven t (Some ty)) (Some (Some found))
given_some t ty found there r =
    let h = holds (IsThere t ty) found there in (
      λ g. ap Some (ap Some h.0 ∙ g.0),
      λ e. (ap Some (sym h.0) ∙ some_same (Some found) r e, subst (λ x. All (Contains t.types) (option_to_list x)) (some_same (Some found) r e) (All-cons (Contains t.types) found [] h.1 (All-nil (Contains t.types)))),
    )

-- ---- the statement

not_atomic : true ≡ false → ⊥
not_atomic e = cc

pub other_op : (c : ContextView) (o : Op) (view : View) (operands : List Operand) → atomic_builtin o ≡ None → Answers (FitsPlain c (Atomic o view operands)) None
other_op c o view operands e =
    answers_none (FitsPlain c (Atomic o view operands)) (λ r h. not_atomic (sym h.6 ∙ no_builtin c.shader.types o e))

pub no_place : (c : ContextView) (o : Op) (view : View) (operands : List Operand) → Answers (Names c view) None → Answers (FitsPlain c (Atomic o view operands)) None
no_place c o view operands none = answers_none (FitsPlain c (Atomic o view operands)) (λ r h. nowhere (Names c view) h.0 none h.3)

pub no_types : (c : ContextView) (o : Op) (view : View) (operands : List Operand) → Answers (HaveTypes c operands) None → Answers (FitsPlain c (Atomic o view operands)) None
no_types c o view operands none = answers_none (FitsPlain c (Atomic o view operands)) (λ r h. nowhere (HaveTypes c operands) h.2 none h.5)

-- the place, its id and the types are the ones that were found
abbrev OfPlace : ContextView → Op → Origin → TypeId → List ShadeType → Option ShadeType → Type 0
OfPlace c o place id types r = (is_atomic o ≡ true) × Takes c.shader.types o (pointer_to place id ∷ types) r × All (Contains c.shader.types.types) (option_to_list r)

one_id : (t : Table) → IsSound t → (a b : TypeId) (ty : ShadeType) → type_at t a ≡ Some ty → type_at t b ≡ Some ty → a ≡ b
one_id t sound a b ty ea eb = λ i. record { 0 = sound.distinct a.0 b.0 ty ea eb i }

found_here : (c : ContextView) → IsSound c.shader.types → (o : Op) (view : View) (operands : List Operand) (place : Origin) (id : TypeId) (types : List ShadeType) (r : Option ShadeType)
    → Answers (Names c view) (Some place) → type_at c.shader.types id ≡ Some place.type → Answers (HaveTypes c operands) (Some types) → FitsPlain c (Atomic o view operands) r → OfPlace c o place id types r
found_here c sound o view operands place id types r names at have h =
    let same : place ≡ h.0 = only (Names c view) place h.0 names h.3 in
    let there : type_at c.shader.types h.1 ≡ Some place.type = h.4 ∙ ap (λ p. Some p.type) (sym same) in
    let ids : id ≡ h.1 = one_id c.shader.types sound id h.1 place.type at there in
    let all : types ≡ h.2 = only (HaveTypes c operands) types h.2 have h.5 in
    (h.6, subst (λ l. Takes c.shader.types o l r) (λ i. pointer_to (sym same i) (sym ids i) ∷ sym all i) h.7, h.8)

pub atomic_none : (c : ContextView) → IsSound c.shader.types → (o : Op) (b : Builtin) (view : View) (operands : List Operand) (place : Origin) (id : TypeId) (types : List ShadeType) → atomic_builtin o ≡ Some b
    → Answers (Names c view) (Some place) → type_at c.shader.types id ≡ Some place.type → Answers (HaveTypes c operands) (Some types) → Answers (RowTakes c.shader.types b (pointer_to place id ∷ types)) None
    → Answers (FitsPlain c (Atomic o view operands)) None
atomic_none c sound o b view operands place id types e names at have none =
    answers_none (FitsPlain c (Atomic o view operands)) (λ r h.
    let w = found_here c sound o view operands place id types r names at have h in
    nowhere (RowTakes c.shader.types b (pointer_to place id ∷ types)) r none ((some_builtin c.shader.types o b e (pointer_to place id ∷ types) r).from w.1))

pub atomic_simple : (t : Table) (o : Op) (b : Builtin) (args : List ShadeType) (given : Option ShadeType) → atomic_builtin o ≡ Some b → Answers (RowTakes t b args) (Some given) → SimpleIf given
atomic_simple t o b args given e row =
    let alike = some_builtin t o b e args given in alike.simple (alike.to (holds (RowTakes t b args) given row)).1

pub atomic_some : (c : ContextView) → IsSound c.shader.types → (o : Op) (b : Builtin) (view : View) (operands : List Operand) (place : Origin) (id : TypeId) (types : List ShadeType) (given : Option ShadeType) (fit : Option (Option ShadeType)) → atomic_builtin o ≡ Some b
    → Answers (Names c view) (Some place) → type_at c.shader.types id ≡ Some place.type → Answers (HaveTypes c operands) (Some types) → Answers (RowTakes c.shader.types b (pointer_to place id ∷ types)) (Some given)
    → Answers (IsGiven c.shader.types given) fit → Answers (FitsPlain c (Atomic o view operands)) fit
atomic_some c sound o b view operands place id types given fit e names at have row gives =
    let args : List ShadeType = pointer_to place id ∷ types in
    let alike = some_builtin c.shader.types o b e args given in
    let taken = alike.to (holds (RowTakes c.shader.types b args) given row) in
    answers_as (IsGiven c.shader.types given) (FitsPlain c (Atomic o view operands)) fit (λ r. (
      λ g. (place, id, types, holds (Names c view) place names, at, holds (HaveTypes c operands) types have, taken.0, subst (λ x. Takes c.shader.types o args x) g.0 taken.1, g.1),
      λ h. (
          let w = found_here c sound o view operands place id types r names at have h in
          (only (RowTakes c.shader.types b args) given r row ((some_builtin c.shader.types o b e args r).from w.1), w.2)
          ),
    )) gives

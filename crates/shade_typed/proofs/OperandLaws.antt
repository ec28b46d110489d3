-- The types of operands.
use Rattle.std.proofs.Common.{◌≡◌, refl, sym, ap, subst, ◌∙◌, ℕ, ◌+◌, ◌<◌, ◌≤◌, List, [], ◌∷◌, ◌++◌, length, get_or, drop, Option, Some, None, append_assoc, append-nil}
use Rattle.std.specs.Prelude.{◌↔◌, All, IsTrue, slice_get}
use Rattle.std.proofs.lemmas.List.{drop_all}
use Rattle.std.proofs.lemmas.List.Elements.{All-nil, All-cons}
use Rattle.shade_values.specs.declared.types.ShadeType.{ShadeType}
use Rattle.shade_values.specs.declared.types.TypeId.{TypeId}
use Rattle.shade_values.specs.declared.value.Value.{Value}
use Rattle.shade_values.specs.Shape.{shape_of}
use Rattle.shade_values.specs.Sound.{IsSound}
use Rattle.shade_values.specs.Table.{Table}
use Rattle.shade_values.specs.Typed.{IsValueOf}
use Rattle.shade_values.proofs.ShapeLaws.{shape_is}
use Rattle.shade_core.proofs.CodeLaws.{drop_here}
use Rattle.shade_core.specs.declared.module.BuiltinInput.{BuiltinInput}
use Rattle.shade_core.specs.declared.module.BuiltinInput.TheVariants.{LocalId, LocalIndex, GlobalId, GroupId, GroupCount}
use Rattle.shade_core.specs.declared.module.CoreParam.{CoreParam}
use Rattle.shade_core.specs.declared.module.CoreParam.TheVariants as parameter
use Rattle.shade_core.specs.declared.statement.Operand.{Operand}
use Rattle.shade_core.specs.declared.statement.Operand.TheVariants.{Constant, Param, Temp}
use Rattle.shade_core.specs.Types.{IsConstructible, IsHeld, NamesHeld, type_at}
use Rattle.shade_core.specs.Views.{SomeParamIs, input_type}
use Rattle.shade_typed.specs.Answers.{Answers}
use Rattle.shade_typed.specs.Contexts.{ContextView, GivesValue, IsThere}
use Rattle.shade_typed.specs.Places.{HasType, HaveTypes, IsHeldAt, IsParam}
use Rattle.shade_typed.specs.Simple.{is_simple}
use Rattle.shade_typed.proofs.AnswerLaws.{answers_as, answers_none, holds, nowhere, only, some_same}
use Rattle.shade_typed.proofs.ContextLaws.{there}

-- ---- a type by its id

pub held_none : (t : Table) (id : TypeId) → ¬ NamesHeld t id → Answers (IsHeldAt t id) None
held_none t id none = answers_none (IsHeldAt t id) (λ ty h. none (ty, h.0, h.1.constructible))

pub held_some : (t : Table) (id : TypeId) (r : Option ShadeType) → NamesHeld t id → r ≡ type_at t id → Answers (IsHeldAt t id) r
held_some t id r h e ty = (
  λ w. e ∙ w.0,
  λ s. (
      let at : type_at t id ≡ Some ty = sym e ∙ s in
      let same : h.0 ≡ ty = some_same h.0 ty (sym h.1 ∙ at) in
      (at, record { held = there t id ty at; constructible = subst (IsConstructible t) same h.2 })
      ),
)

-- ---- constants

pub constant_none : (c : ContextView) → IsSound c.shader.types → (id : TypeId) (v : Value) → (IsValueOf (shape_of c.shader.types id) v → ⊥) → Answers (HasType c (Constant id v)) None
constant_none c sound id v none =
    answers_none (HasType c (Constant id v)) (λ ty h. none (subst (λ s. IsValueOf s v) (sym (shape_is c.shader.types sound.over id.0 ty h.has.0)) h.has.1))

pub constant_some : (c : ContextView) → IsSound c.shader.types → (id : TypeId) (v : Value) (r : Option ShadeType) → IsValueOf (shape_of c.shader.types id) v → Answers (IsHeldAt c.shader.types id) r → Answers (HasType c (Constant id v)) r
constant_some c sound id v r value h =
    answers_as (IsHeldAt c.shader.types id) (HasType c (Constant id v)) r (λ ty. (
      λ w. record { has = (w.0, subst (λ s. IsValueOf s v) (shape_is c.shader.types sound.over id.0 ty w.0) value); held = w.1 },
      λ o. (o.has.0, o.held),
    )) h

-- ---- parameters

input_constructible : (t : Table) (which : BuiltinInput) → IsConstructible t (input_type which)
input_constructible t LocalIndex = refl
input_constructible t LocalId = refl
input_constructible t GlobalId = refl
input_constructible t GroupId = refl
input_constructible t GroupCount = refl

pub input_is : (t : Table) (which : BuiltinInput) (r : Option ShadeType) → Answers (IsThere t (input_type which)) r → Answers (IsParam t (parameter.Input which)) r
input_is t which r h =
    answers_as (IsThere t (input_type which)) (IsParam t (parameter.Input which)) r (λ ty. (
      λ w. (sym w.0, record { held = w.1; constructible = subst (IsConstructible t) (sym w.0) (input_constructible t which) }),
      λ p. (sym p.0, p.1.held),
    )) h

pub param_none : (c : ContextView) (n : ℕ) → slice_get c.function.params n ≡ None → Answers (HasType c (Param n)) None
param_none c n e = answers_none (HasType c (Param n)) (λ ty h. subst (λ p. SomeParamIs c.shader.types p ty) e h.has)

pub param_some : (c : ContextView) (n : ℕ) (p : CoreParam) (r : Option ShadeType) → slice_get c.function.params n ≡ Some p → Answers (IsParam c.shader.types p) r → Answers (HasType c (Param n)) r
param_some c n p r e h =
    answers_as (IsParam c.shader.types p) (HasType c (Param n)) r (λ ty. (
      λ w. record { has = subst (λ q. SomeParamIs c.shader.types q ty) (sym e) w.0; held = w.1 },
      λ o. (subst (λ q. SomeParamIs c.shader.types q ty) e o.has, o.held),
    )) h

-- ---- values

pub temp_none : (c : ContextView) (n : ℕ) → Answers (GivesValue c.values n) None → Answers (HasType c (Temp n)) None
temp_none c n h = answers_none (HasType c (Temp n)) (λ ty o. nowhere (GivesValue c.values n) ty h o.has)

pub temp_some : (c : ContextView) (n : ℕ) (id : TypeId) (own : ShadeType) (r : Option ShadeType) → Answers (GivesValue c.values n) (Some own) → type_at c.shader.types id ≡ Some own → Answers (IsHeldAt c.shader.types id) r → Answers (HasType c (Temp n)) r
temp_some c n id own r value at h =
    answers_as (IsHeldAt c.shader.types id) (HasType c (Temp n)) r (λ ty. (
      λ w. record { has = subst (GivesValue c.values n) (some_same own ty (sym at ∙ w.0)) (holds (GivesValue c.values n) own value); held = w.1 },
      λ o. (at ∙ ap Some (only (GivesValue c.values n) own ty value o.has), o.held),
    )) h

-- ---- operands one after another

-- what the operands from a place on have, behind what those before it have
abbrev pub LeftOver : ContextView → List Operand → List ShadeType → List ShadeType → Type 0
LeftOver c rest types all = (others : List ShadeType) × (all ≡ types ++ others) × HaveTypes c rest others

abbrev pub HaveSoFar : ContextView → List Operand → ℕ → List ShadeType → Type 0
HaveSoFar c operands i types = (all : List ShadeType) → HaveTypes c operands all ↔ LeftOver c (drop i operands) types all

pub none_so_far : (c : ContextView) (operands : List Operand) → HaveSoFar c operands 0 []
none_so_far c operands all = (λ h. (all, refl, h), λ w. subst (HaveTypes c operands) (sym w.1) w.2)

first_has : (c : ContextView) (operand : Operand) (rest : List Operand) (others : List ShadeType) → HaveTypes c (operand ∷ rest) others → (ty : ShadeType) × (more : List ShadeType) × (others ≡ ty ∷ more) × HasType c operand ty × HaveTypes c rest more
first_has c operand rest [] h = absurd h
first_has c operand rest (ty ∷ more) h = (ty, more, refl, h.0, h.1)

pub one_more : (c : ContextView) (operands : List Operand) (i : ℕ) (operand : Operand) (types : List ShadeType) (ty : ShadeType) → i < length operands → operand ≡ get_or operands i operand → Answers (HasType c operand) (Some ty)
    → HaveSoFar c operands i types → HaveSoFar c operands (i + 1) (types ++ ty ∷ [])
one_more c operands i operand types ty lt is one so_far all = (
  λ h. (
      let w = (so_far all).0 h in
      let f = first_has c operand (drop (i + 1) operands) w.0 (subst (λ l. HaveTypes c l w.0) (drop_here operands i operand lt is) w.2) in
      let same : ty ≡ f.0 = only (HasType c operand) ty f.0 one f.3 in
      (f.1, w.1 ∙ (ap (λ l. types ++ l) (f.2 ∙ ap (λ x. x ∷ f.1) (sym same)) ∙ sym (append_assoc types (ty ∷ []) f.1)), f.4)
      ),
  λ w. (so_far all).1 (ty ∷ w.0, w.1 ∙ append_assoc types (ty ∷ []) w.0, subst (λ l. HaveTypes c l (ty ∷ w.0)) (sym (drop_here operands i operand lt is)) (holds (HasType c operand) ty one, w.2)),
)

pub none_more : (c : ContextView) (operands : List Operand) (i : ℕ) (operand : Operand) (types : List ShadeType) → i < length operands → operand ≡ get_or operands i operand → Answers (HasType c operand) None
    → HaveSoFar c operands i types → Answers (HaveTypes c operands) None
none_more c operands i operand types lt is none so_far =
    answers_none (HaveTypes c operands) (λ all h.
    let w = (so_far all).0 h in
    let f = first_has c operand (drop (i + 1) operands) w.0 (subst (λ l. HaveTypes c l w.0) (drop_here operands i operand lt is) w.2) in
    nowhere (HasType c operand) f.0 none f.3)

nothing_left : (c : ContextView) (others : List ShadeType) → HaveTypes c [] others → others ≡ []
nothing_left c [] h = refl
nothing_left c (ty ∷ others) h = absurd h

pub have_all : (c : ContextView) (operands : List Operand) (i : ℕ) (types : List ShadeType) → length operands ≤ i → HaveSoFar c operands i types → Answers (HaveTypes c operands) (Some types)
have_all c operands i types le so_far all = (
  λ h. (
      let w = (so_far all).0 h in
      let empty : w.0 ≡ [] = nothing_left c w.0 (subst (λ l. HaveTypes c l w.0) (drop_all i operands le) w.2) in
      ap Some (sym (w.1 ∙ (ap (λ l. types ++ l) empty ∙ append-nil types)))
      ),
  λ e. (so_far all).1 ([], sym (some_same types all e) ∙ sym (append-nil types), subst (λ l. HaveTypes c l []) (sym (drop_all i operands le)) tt),
)

-- all of them are of types that a shader may hold
pub all_held : (c : ContextView) (operands : List Operand) (types : List ShadeType) → HaveTypes c operands types → All (IsHeld c.shader.types) types
all_held c [] [] h = All-nil (IsHeld c.shader.types)
all_held c [] (ty ∷ types) h = absurd h
all_held c (operand ∷ operands) [] h = absurd h
all_held c (operand ∷ operands) (ty ∷ types) h = All-cons (IsHeld c.shader.types) ty types h.0.held (all_held c operands types h.1)

pub input_simple : (which : BuiltinInput) → IsTrue (is_simple (input_type which))
input_simple LocalIndex = refl
input_simple LocalId = refl
input_simple GlobalId = refl
input_simple GroupId = refl
input_simple GroupCount = refl

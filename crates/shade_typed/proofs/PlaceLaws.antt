-- What views name.
use Rattle.std.proofs.Common.{◌≡◌, refl, sym, ap, subst, ◌∙◌, ℕ, ◌+◌, ◌<◌, ◌≤◌, List, length, get_or, drop, Bool, Option, Some, None}
use Rattle.std.specs.Prelude.{◌↔◌, IsTrue, slice_get}
use Rattle.std.proofs.lemmas.List.{drop_all}
use Rattle.shade_values.specs.declared.types.Access.{Access}
use Rattle.shade_values.specs.declared.types.Access.TheVariants.{ReadWrite}
use Rattle.shade_values.specs.declared.types.Space.{Space}
use Rattle.shade_values.specs.declared.types.Space.TheVariants as space
use Rattle.shade_values.specs.declared.types.ShadeType.{ShadeType}
use Rattle.shade_values.specs.declared.types.ShadeType.TheVariants as type
use Rattle.shade_values.specs.declared.types.TypeId.{TypeId}
use Rattle.shade_values.specs.Table.{Table}
use Rattle.shade_core.proofs.CodeLaws.{drop_here}
use Rattle.shade_core.specs.declared.module.CoreParam.TheVariants as parameter
use Rattle.shade_core.specs.declared.module.Root.{Root}
use Rattle.shade_core.specs.declared.statement.Base.TheVariants as base
use Rattle.shade_core.specs.declared.statement.Operand.{Operand}
use Rattle.shade_core.specs.declared.statement.View.{View}
use Rattle.shade_core.specs.declared.statement.ViewStep.{ViewStep}
use Rattle.shade_core.specs.declared.statement.ViewStep.TheVariants as step
use Rattle.shade_core.specs.Types.{NamesHeld, IsConstructible, type_at}
use Rattle.shade_core.specs.Views.{IsIndex, LocalIs, Origin, PointeeIs, PointsTo, RootIs}
use Rattle.shade_typed.specs.Answers.{Answers}
use Rattle.shade_typed.specs.Contexts.{ContextView}
use Rattle.shade_typed.specs.Places.{Begins, HasPart, HasType, Lead, Names, NamesValue, Steps}
use Rattle.shade_typed.proofs.AnswerLaws.{answers_as, answers_none, answers_one, holds, nowhere, only, some_same, none_some}

abbrev origin : Space → Access → ShadeType → Origin
origin in_space access ty = record { space = in_space; access = access; type = ty }

same_origin : (o p : Origin) → o.space ≡ p.space → o.access ≡ p.access → o.type ≡ p.type → o ≡ p
same_origin o p a b d = λ i. record { space = a i; access = b i; type = d i }

pub origins_as : (o p : Origin) (b : Bool) → o.space ≡ p.space → o.access ≡ p.access → IsTrue b ↔ (o.type ≡ p.type) → IsTrue b ↔ (o ≡ p)
origins_as o p b spaces accesses types = (λ t. same_origin o p spaces accesses (types.0 t), λ e. types.1 (ap (λ q. q.type) e))

-- a place of a space and an access, whose type stands at an id
abbrev pub StandsThere : Table → Space → Access → TypeId → Origin → Type 0
StandsThere t in_space access id o = (type_at t id ≡ Some o.type) × (o.space ≡ in_space) × (o.access ≡ access)

stands_none : (t : Table) (in_space : Space) (access : Access) (id : TypeId) → type_at t id ≡ None → Answers (StandsThere t in_space access id) None
stands_none t in_space access id none = answers_none (StandsThere t in_space access id) (λ o h. none_some o.type (sym none ∙ h.0))

stands_some : (t : Table) (in_space : Space) (access : Access) (id : TypeId) (ty : ShadeType) → type_at t id ≡ Some ty → Answers (StandsThere t in_space access id) (Some (origin in_space access ty))
stands_some t in_space access id ty at =
    answers_one (StandsThere t in_space access id) (origin in_space access ty) (at, refl, refl)
    (λ o h. same_origin (origin in_space access ty) o (sym h.1) (sym h.2) (some_same ty o.type (sym at ∙ h.0)))

-- ---- locals

pub no_local : (c : ContextView) (n : ℕ) → slice_get c.function.locals n ≡ None → Answers (Begins c (base.Local n)) None
no_local c n e = answers_none (Begins c (base.Local n)) (λ o h. subst (λ l. LocalIs c.shader.types l o) e h)

local_as : (c : ContextView) (n : ℕ) (id : TypeId) → slice_get c.function.locals n ≡ Some id → (o : Origin) → StandsThere c.shader.types space.Function ReadWrite id o ↔ Begins c (base.Local n) o
local_as c n id e o = (λ w. subst (λ l. LocalIs c.shader.types l o) (sym e) w, λ h. subst (λ l. LocalIs c.shader.types l o) e h)

pub local_none : (c : ContextView) (n : ℕ) (id : TypeId) → slice_get c.function.locals n ≡ Some id → type_at c.shader.types id ≡ None → Answers (Begins c (base.Local n)) None
local_none c n id e none =
    answers_as (StandsThere c.shader.types space.Function ReadWrite id) (Begins c (base.Local n)) None (local_as c n id e) (stands_none c.shader.types space.Function ReadWrite id none)

pub local_some : (c : ContextView) (n : ℕ) (id : TypeId) (ty : ShadeType) → slice_get c.function.locals n ≡ Some id → type_at c.shader.types id ≡ Some ty → Answers (Begins c (base.Local n)) (Some (origin space.Function ReadWrite ty))
local_some c n id ty e at =
    answers_as (StandsThere c.shader.types space.Function ReadWrite id) (Begins c (base.Local n)) (Some (origin space.Function ReadWrite ty)) (local_as c n id e) (stands_some c.shader.types space.Function ReadWrite id ty at)

-- ---- roots

pub no_root : (c : ContextView) (n : ℕ) → slice_get c.shader.roots n ≡ None → Answers (Begins c (base.Module n)) None
no_root c n e = answers_none (Begins c (base.Module n)) (λ o h. subst (λ r. RootIs c.shader.types r o) e h)

root_as : (c : ContextView) (n : ℕ) (root : Root) → slice_get c.shader.roots n ≡ Some root → (o : Origin) → StandsThere c.shader.types root.space root.access root.ty o ↔ Begins c (base.Module n) o
root_as c n root e o = (λ w. subst (λ r. RootIs c.shader.types r o) (sym e) w, λ h. subst (λ r. RootIs c.shader.types r o) e h)

pub root_none : (c : ContextView) (n : ℕ) (root : Root) → slice_get c.shader.roots n ≡ Some root → type_at c.shader.types root.ty ≡ None → Answers (Begins c (base.Module n)) None
root_none c n root e none =
    answers_as (StandsThere c.shader.types root.space root.access root.ty) (Begins c (base.Module n)) None (root_as c n root e) (stands_none c.shader.types root.space root.access root.ty none)

pub root_some : (c : ContextView) (n : ℕ) (root : Root) (ty : ShadeType) → slice_get c.shader.roots n ≡ Some root → type_at c.shader.types root.ty ≡ Some ty → Answers (Begins c (base.Module n)) (Some (origin root.space root.access ty))
root_some c n root ty e at =
    answers_as (StandsThere c.shader.types root.space root.access root.ty) (Begins c (base.Module n)) (Some (origin root.space root.access ty)) (root_as c n root e) (stands_some c.shader.types root.space root.access root.ty ty at)

-- ---- pointers

pub pointer_none : (t : Table) (in_space : Space) (id : TypeId) (access : Access) (pointer : Option ShadeType) → pointer ≡ Some (type.Pointer in_space id access) → type_at t id ≡ None → Answers (PointsTo t pointer) None
pointer_none t in_space id access pointer e none = subst (λ p. Answers (PointsTo t p) None) (sym e) (stands_none t in_space access id none)

pub pointer_some : (t : Table) (in_space : Space) (id : TypeId) (access : Access) (pointer : Option ShadeType) (ty : ShadeType) → pointer ≡ Some (type.Pointer in_space id access) → type_at t id ≡ Some ty
    → Answers (PointsTo t pointer) (Some (origin in_space access ty))
pointer_some t in_space id access pointer ty e at = subst (λ p. Answers (PointsTo t p) (Some (origin in_space access ty))) (sym e) (stands_some t in_space access id ty at)

pub pointee_is : (c : ContextView) (n : ℕ) (in_space : Space) (id : TypeId) (r : Option Origin) → slice_get c.function.params n ≡ Some (parameter.Pointer in_space id) → Answers (PointsTo c.shader.types (type_at c.shader.types id)) r
    → Answers (Begins c (base.Pointee n)) r
pointee_is c n in_space id r e h = subst (λ p. Answers (PointeeIs c.shader.types p) r) (sym e) h

-- ---- steps

pub index_none : (c : ContextView) (index : Operand) (from : ShadeType) → Answers (HasType c index) None → Answers (Steps c (step.Index index) from) None
index_none c index from h = answers_none (Steps c (step.Index index) from) (λ to w. nowhere (HasType c index) w.0.0 h w.0.1)

pub index_unlike : (c : ContextView) (index : Operand) (from ty : ShadeType) → Answers (HasType c index) (Some ty) → ¬ IsIndex ty → Answers (Steps c (step.Index index) from) None
index_unlike c index from ty h unlike = answers_none (Steps c (step.Index index) from) (λ to w. unlike (subst IsIndex (sym (only (HasType c index) ty w.0.0 h w.0.1)) w.0.2))

pub index_is : (c : ContextView) (index : Operand) (from ty : ShadeType) (r : Option ShadeType) → Answers (HasType c index) (Some ty) → IsIndex ty → Answers (HasPart c.shader.types from) r → Answers (Steps c (step.Index index) from) r
index_is c index from ty r h is part =
    answers_as (HasPart c.shader.types from) (Steps c (step.Index index) from) r (λ to. (λ w. ((ty, holds (HasType c index) ty h, is, w.0), w.1), λ s. (s.0.3, s.1))) part

-- where steps lead, from the one at a place on
abbrev pub LedSoFar : ContextView → List ViewStep → ℕ → ShadeType → ShadeType → Type 0
LedSoFar c steps i from at = (end : ShadeType) → Lead c steps from end ↔ Lead c (drop i steps) at end

pub led_none : (c : ContextView) (steps : List ViewStep) (from : ShadeType) → LedSoFar c steps 0 from from
led_none c steps from end = (λ h. h, λ h. h)

first_leads : (c : ContextView) (steps : List ViewStep) (i : ℕ) (s : ViewStep) (at end : ShadeType) → i < length steps → s ≡ get_or steps i s → Lead c (drop i steps) at end → (mid : ShadeType) × Steps c s at mid × Lead c (drop (i + 1) steps) mid end
first_leads c steps i s at end lt is h = subst (λ l. Lead c l at end) (drop_here steps i s lt is) h

pub led_more : (c : ContextView) (steps : List ViewStep) (i : ℕ) (s : ViewStep) (from at next : ShadeType) → i < length steps → s ≡ get_or steps i s → Answers (Steps c s at) (Some next) → LedSoFar c steps i from at → LedSoFar c steps (i + 1) from next
led_more c steps i s from at next lt is one so_far end = (
  λ h. (
      let w = first_leads c steps i s at end lt is ((so_far end).0 h) in
      subst (λ m. Lead c (drop (i + 1) steps) m end) (sym (only (Steps c s at) next w.0 one w.1)) w.2
      ),
  λ h. (so_far end).1 (subst (λ l. Lead c l at end) (sym (drop_here steps i s lt is)) (next, holds (Steps c s at) next one, h)),
)

pub led_nowhere : (c : ContextView) (steps : List ViewStep) (i : ℕ) (s : ViewStep) (from at : ShadeType) → i < length steps → s ≡ get_or steps i s → Answers (Steps c s at) None → LedSoFar c steps i from at → Answers (Lead c steps from) None
led_nowhere c steps i s from at lt is none so_far =
    answers_none (Lead c steps from) (λ end h. (let w = first_leads c steps i s at end lt is ((so_far end).0 h) in nowhere (Steps c s at) w.0 none w.1))

pub led_all : (c : ContextView) (steps : List ViewStep) (i : ℕ) (from at : ShadeType) → length steps ≤ i → LedSoFar c steps i from at → Answers (Lead c steps from) (Some at)
led_all c steps i from at le so_far end = (
  λ h. ap Some (subst (λ l. Lead c l at end) (drop_all i steps le) ((so_far end).0 h)),
  λ e. (so_far end).1 (subst (λ l. Lead c l at end) (sym (drop_all i steps le)) (some_same at end e)),
)

-- ---- views

pub view_nowhere : (c : ContextView) (view : View) → Answers (Begins c view.base) None → Answers (Names c view) None
view_nowhere c view h = answers_none (Names c view) (λ o w. nowhere (Begins c view.base) (origin o.space o.access w.begin) h w.base)

pub view_past : (c : ContextView) (view : View) (in_space : Space) (access : Access) (begin : ShadeType) → Answers (Begins c view.base) (Some (origin in_space access begin)) → Answers (Lead c view.steps begin) None → Answers (Names c view) None
view_past c view in_space access begin h none =
    answers_none (Names c view) (λ o w.
    let same : begin ≡ w.begin = ap (λ p. p.type) (only (Begins c view.base) (origin in_space access begin) (origin o.space o.access w.begin) h w.base) in
    nowhere (Lead c view.steps begin) o.type none (subst (λ b. Lead c view.steps b o.type) (sym same) w.steps))

pub view_is : (c : ContextView) (view : View) (in_space : Space) (access : Access) (begin end : ShadeType) → Answers (Begins c view.base) (Some (origin in_space access begin)) → Answers (Lead c view.steps begin) (Some end)
    → Answers (Names c view) (Some (origin in_space access end))
view_is c view in_space access begin end h leads =
    answers_one (Names c view) (origin in_space access end)
    (record { begin = begin; base = holds (Begins c view.base) (origin in_space access begin) h; steps = holds (Lead c view.steps begin) end leads })
    (λ o w.
    let same = only (Begins c view.base) (origin in_space access begin) (origin o.space o.access w.begin) h w.base in
    same_origin (origin in_space access end) o (ap (λ p. p.space) same) (ap (λ p. p.access) same)
    (only (Lead c view.steps begin) end o.type leads (subst (λ b. Lead c view.steps b o.type) (sym (ap (λ p. p.type) same)) w.steps)))

-- ---- views of values

pub value_nowhere : (c : ContextView) (view : View) → Answers (Names c view) None → Answers (NamesValue c view) None
value_nowhere c view h = answers_none (NamesValue c view) (λ o w. nowhere (Names c view) o h w.0)

pub value_unheld : (c : ContextView) (view : View) (id : TypeId) (o : Origin) → Answers (Names c view) (Some o) → type_at c.shader.types id ≡ Some o.type → ¬ NamesHeld c.shader.types id → Answers (NamesValue c view) None
value_unheld c view id o h at none =
    answers_none (NamesValue c view) (λ p w. none (o.type, at, subst (λ q. IsConstructible c.shader.types q.type) (sym (only (Names c view) o p h w.0)) w.1))

pub value_is : (c : ContextView) (view : View) (id : TypeId) (o : Origin) → Answers (Names c view) (Some o) → type_at c.shader.types id ≡ Some o.type → NamesHeld c.shader.types id → Answers (NamesValue c view) (Some o)
value_is c view id o h at held =
    answers_one (NamesValue c view) o
    (holds (Names c view) o h, subst (IsConstructible c.shader.types) (some_same held.0 o.type (sym held.1 ∙ at)) held.2)
    (λ p w. only (Names c view) o p h w.0)

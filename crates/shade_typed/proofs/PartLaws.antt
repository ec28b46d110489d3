-- Members and elements.
use Rattle.std.proofs.Common.{◌≡◌, refl, sym, ap, ◌∙◌, ℕ, ◌<◌, ◌≤◌, List, length, Option, Some, None, inl, inr, arith}
use Rattle.std.specs.Prelude.{Contains, option_map, slice_get}
use Rattle.shade_values.specs.declared.types.Scalar.{Scalar}
use Rattle.shade_values.specs.declared.types.Scalar.TheVariants as scalar
use Rattle.shade_values.specs.declared.types.ShadeType.{ShadeType}
use Rattle.shade_values.specs.declared.types.ShadeType.TheVariants as type
use Rattle.shade_values.specs.declared.types.TypeId.{TypeId}
use Rattle.shade_values.specs.Sound.{IsSound}
use Rattle.shade_values.specs.Table.{Table, members_at}
use Rattle.shade_core.specs.Types.{type_at}
use Rattle.shade_typed.specs.Answers.{Answers}
use Rattle.shade_typed.specs.Contexts.{IsThere}
use Rattle.shade_typed.specs.Places.{HasElement, HasMember, HasPart}
use Rattle.shade_typed.proofs.AnswerLaws.{answers_as, answers_none, some_same, none_some}
use Rattle.shade_typed.proofs.ContextLaws.{there, id_of}

-- a struct of the table is one of its structs
pub struct_stands : (t : Table) (number : ℕ) → IsSound t → Contains t.types (type.Struct number) → number < length t.structs
struct_stands t number sound h = (let named = id_of t (type.Struct number) h in (sound.over named.0.0 (type.Struct number) named.1).0)

-- ---- vectors

pub past_component : (t : Table) (count : ℕ) (s : Scalar) (place : ℕ) → count ≤ place → Answers (HasMember t (type.Vector count s) place) None
past_component t count s place le = answers_none (HasMember t (type.Vector count s) place) (λ ty h. omega (arith, le, h.0.0))

pub component : (t : Table) (count : ℕ) (s : Scalar) (place : ℕ) (r : Option ShadeType) → place < count → Answers (IsThere t (type.Plain s)) r → Answers (HasMember t (type.Vector count s) place) r
component t count s place r lt h =
    answers_as (IsThere t (type.Plain s)) (HasMember t (type.Vector count s) place) r (λ ty. (λ w. ((lt, w.0), w.1), λ m. (m.0.1, m.1))) h

-- ---- structs

pub past_member : (t : Table) (number place : ℕ) (members : List (List ℕ × TypeId)) → members ≡ members_at t.structs number → None ≡ option_map (λ m. m.1) (slice_get members place) → Answers (HasMember t (type.Struct number) place) None
past_member t number place members own none = answers_none (HasMember t (type.Struct number) place) (λ ty h.
    none_some h.0.1 (none ∙ (ap (λ ms. option_map (λ m. m.1) (slice_get ms place)) own ∙ ap (option_map (λ m. m.1)) h.0.2)))

pub member_at : (t : Table) (number place : ℕ) (members : List (List ℕ × TypeId)) (id : TypeId) (r : Option ShadeType) → members ≡ members_at t.structs number → Some id ≡ option_map (λ m. m.1) (slice_get members place) → r ≡ type_at t id → Answers (HasMember t (type.Struct number) place) r
member_at t number place members id r own at e =
    by_found (slice_get (members_at t.structs number) place) refl (at ∙ ap (λ ms. option_map (λ m. m.1) (slice_get ms place)) own)
  where
    by_found : (m : Option (List ℕ × TypeId)) → slice_get (members_at t.structs number) place ≡ m → Some id ≡ option_map (λ x. x.1) m → Answers (HasMember t (type.Struct number) place) r
    by_found None here is = absurd (none_some id (sym is))
    by_found (Some m) here is =
        let same : id ≡ m.1 = some_same id m.1 is in
        λ ty. (
          λ h. (
              let found : m.1 ≡ h.0.1 = ap (λ (p : List ℕ × TypeId). p.1) (some_same m (h.0.0, h.0.1) (sym here ∙ h.0.2)) in
              e ∙ (ap (type_at t) (same ∙ found) ∙ h.0.3)
              ),
          λ s. (let named : type_at t id ≡ Some ty = sym e ∙ s in ((m.0, m.1, here, ap (type_at t) (sym same) ∙ named), there t id ty named)),
        )

-- ---- results of exchanges

pub past_exchanged : (t : Table) (s : Scalar) (place : ℕ) → 1 < place → Answers (HasMember t (type.Exchanged s) place) None
past_exchanged t s place gt = answers_none (HasMember t (type.Exchanged s) place) (λ ty h. elim (h.0) [
  | inl a ↦ omega (arith, gt, a.0)
  | inr b ↦ omega (arith, gt, b.0)
])

pub old_value : (t : Table) (s : Scalar) (place : ℕ) (r : Option ShadeType) → place ≡ 0 → Answers (IsThere t (type.Plain s)) r → Answers (HasMember t (type.Exchanged s) place) r
old_value t s place r zero_is h =
    answers_as (IsThere t (type.Plain s)) (HasMember t (type.Exchanged s) place) r (λ ty. (
      λ w. (inl (zero_is, w.0), w.1),
      λ m. elim (m.0) [
        | inl a ↦ (a.1, m.1)
        | inr b ↦ absurd (omega (arith, zero_is, b.0))
      ],
    )) h

pub was_exchanged : (t : Table) (s : Scalar) (place : ℕ) (r : Option ShadeType) → place ≡ 1 → Answers (IsThere t (type.Plain scalar.Bool)) r → Answers (HasMember t (type.Exchanged s) place) r
was_exchanged t s place r one_is h =
    answers_as (IsThere t (type.Plain scalar.Bool)) (HasMember t (type.Exchanged s) place) r (λ ty. (
      λ w. (inr (one_is, w.0), w.1),
      λ m. elim (m.0) [
        | inl a ↦ absurd (omega (arith, one_is, a.0))
        | inr b ↦ (b.1, m.1)
      ],
    )) h

-- ---- elements

pub component_of : (t : Table) (count : ℕ) (s : Scalar) (r : Option ShadeType) → Answers (IsThere t (type.Plain s)) r → Answers (HasElement t (type.Vector count s)) r
component_of t count s r h = h

pub element_at : (t : Table) (id : TypeId) (count : ℕ) (r : Option ShadeType) → r ≡ type_at t id → Answers (HasElement t (type.Array id count)) r
element_at t id count r e ty = (λ h. e ∙ h.0, λ s. (sym e ∙ s, there t id ty (sym e ∙ s)))

pub runtime_element : (t : Table) (id : TypeId) (r : Option ShadeType) → r ≡ type_at t id → Answers (HasPart t (type.RuntimeArray id)) r
runtime_element t id r e ty = (λ h. e ∙ h.0, λ s. (sym e ∙ s, there t id ty (sym e ∙ s)))

-- what is no runtime-sized array
pub other_part : (t : Table) (from : ShadeType) (r : Option ShadeType) → ((element : TypeId) → from ≡ type.RuntimeArray element → ⊥) → Answers (HasElement t from) r → Answers (HasPart t from) r
other_part t (type.Plain s) r other h = h
other_part t (type.Vector count s) r other h = h
other_part t (type.Array element count) r other h = h
other_part t (type.RuntimeArray element) r other h = absurd (other element refl)
other_part t (type.Atomic s) r other h = h
other_part t (type.Struct number) r other h = h
other_part t (type.Exchanged s) r other h = h
other_part t (type.Pointer in_space pointee access) r other h = h

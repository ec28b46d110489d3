-- What is known where a statement is asked.
use Rattle.std.proofs.Common.{◌≡◌, refl, sym, ap, subst, ◌∙◌, ℕ, ◌+◌, ◌<◌, ◌≤◌, true, false, List, [], ◌∷◌, ◌++◌, length, get_or, Option, Some, None, inl, inr, arith, length-append}
use Rattle.std.specs.Prelude.{All, Contains, IsTrue, option_map, slice_get}
use Rattle.std.proofs.lemmas.Bool.{cases_lt}
use Rattle.std.proofs.lemmas.List.{get_or_append_left}
use Rattle.std.proofs.lemmas.List.Elements.{All-get_or, Contains-push}
use Rattle.std.proofs.lemmas.Option.{slice_get-get_or, slice_get_within, get_or_from_slice_get, slice_get-map}
use Rattle.shade_values.specs.declared.types.ShadeType.{ShadeType}
use Rattle.shade_values.specs.declared.types.TypeId.{TypeId}
use Rattle.shade_values.specs.Table.{Table}
use Rattle.shade_core.specs.Types.{type_at}
use Rattle.shade_typed.specs.Answers.{Answers}
use Rattle.shade_typed.specs.Contexts.{GivesValue, IsThere, value_type, value_types}
use Rattle.shade_typed.specs.Simple.{AreSimple, is_simple}
use Rattle.shade_typed.proofs.AnswerLaws.{answers_none, answers_one, some_same, none_some}

-- a type at an id is there
pub there : (t : Table) (id : TypeId) (ty : ShadeType) → type_at t id ≡ Some ty → Contains t.types ty
there t id ty at = (id.0, slice_get_within t.types id.0 ty at, get_or_from_slice_get t.types id.0 ty ty at)

pub within : (t : Table) (id : TypeId) (ty : ShadeType) → type_at t id ≡ Some ty → id.0 < length t.types
within t id ty at = slice_get_within t.types id.0 ty at

-- and one that is there has an id
pub id_of : (t : Table) (ty : ShadeType) → Contains t.types ty → (id : TypeId) × (type_at t id ≡ Some ty)
id_of t ty h = (record { 0 = h.0 }, slice_get-get_or t.types h.0 ty h.1 ∙ ap Some h.2)

-- ---- simple types

-- an id of the list, with its type
abbrev pub NotAmong : Table → List TypeId → ShadeType → ℕ → Type 0
NotAmong t ids ty i = (j : ℕ) (id : TypeId) → j < i → slice_get ids j ≡ Some id → type_at t id ≡ Some ty → ⊥

pub not_among_more : (t : Table) (ids : List TypeId) (ty other : ShadeType) (i : ℕ) (id : TypeId) → slice_get ids i ≡ Some id → type_at t id ≡ Some other → (other ≡ ty → ⊥) → NotAmong t ids ty i → NotAmong t ids ty (i + 1)
not_among_more t ids ty other i id here at unlike before j x lt is named = elim (cases_lt j i) [
  | inl earlier ↦ before j x earlier is named
  | inr late ↦
      let same : id ≡ x = some_same id x (sym here ∙ (ap (slice_get ids) (omega (arith, lt, late)) ∙ is)) in
      unlike (some_same other ty (sym at ∙ (ap (type_at t) same ∙ named)))
]

pub not_there : (t : Table) (ids : List TypeId) (ty : ShadeType) (i : ℕ) → AreSimple t ids → IsTrue (is_simple ty) → length ids ≤ i → NotAmong t ids ty i → Contains t.types ty → ⊥
not_there t ids ty i simple is le none h =
    let named = id_of t ty h in
    let among = simple.all named.0 ty named.1 is in
    none among.0 named.0 (omega (arith, among.1, le)) (slice_get-get_or ids among.0 named.0 among.1 ∙ ap Some among.2) named.1

pub simple_within : (t : Table) (ids : List TypeId) → AreSimple t ids → (i : ℕ) (d : TypeId) → i < length ids → (get_or ids i d).0 < length t.types
simple_within t ids simple i d lt = All-get_or (λ id. id.0 < length t.types) ids i d lt simple.below

-- those of the first types
abbrev pub SimpleBelow : Table → List TypeId → ℕ → Type 0
SimpleBelow t ids n = (id : TypeId) (ty : ShadeType) → id.0 < n → type_at t id ≡ Some ty → IsTrue (is_simple ty) → Contains ids id

contains_more : (ids : List TypeId) (x : TypeId) (id : TypeId) → Contains ids id → Contains (ids ++ x ∷ []) id
contains_more ids x id h = (h.0, omega (arith, h.1, length-append ids (x ∷ [])), get_or_append_left ids (x ∷ []) id h.0 h.1 ∙ h.2)

same_id : (a b : TypeId) → a.0 ≡ b.0 → a ≡ b
same_id a b e = λ i. record { 0 = e i }

pub simple_kept : (t : Table) (ids : List TypeId) (x : TypeId) (ty : ShadeType) (n : ℕ) → x.0 ≡ n → type_at t x ≡ Some ty → SimpleBelow t ids n → SimpleBelow t (ids ++ x ∷ []) (n + 1)
simple_kept t ids x ty n is at below id other lt named simple = elim (cases_lt id.0 n) [
  | inl earlier ↦ contains_more ids x id (below id other earlier named simple)
  | inr late ↦ subst (Contains (ids ++ x ∷ [])) (same_id x id (omega (arith, is, lt, late))) (Contains-push ids x)
]

pub simple_passed : (t : Table) (ids : List TypeId) (ty : ShadeType) (n : ℕ) → slice_get t.types n ≡ Some ty → is_simple ty ≡ false → SimpleBelow t ids n → SimpleBelow t ids (n + 1)
simple_passed t ids ty n at plain below id other lt named simple = elim (cases_lt id.0 n) [
  | inl earlier ↦ below id other earlier named simple
  | inr late ↦
      let same : ty ≡ other = some_same ty other (sym at ∙ (ap (slice_get t.types) (omega (arith, lt, late)) ∙ named)) in
      absurd (let f : false ≡ true = sym plain ∙ (ap is_simple same ∙ simple) in cc)
]

pub simple_all : (t : Table) (ids : List TypeId) (n : ℕ) → length t.types ≤ n → All (λ id. id.0 < length t.types) ids → SimpleBelow t ids n → AreSimple t ids
simple_all t ids n le short below = record {
  below = short;
  all = λ id ty at simple. below id ty (omega (arith, within t id ty at, le)) at simple;
}

-- ---- found

pub found_some : (t : Table) (id : TypeId) (ty : ShadeType) → type_at t id ≡ Some ty → Answers (IsThere t ty) (Some ty)
found_some t id ty at = answers_one (IsThere t ty) ty (refl, there t id ty at) (λ other h. sym h.0)

pub found_none : (t : Table) (ty : ShadeType) → ¬ Contains t.types ty → Answers (IsThere t ty) None
found_none t ty none = answers_none (IsThere t ty) (λ other h. none (subst (Contains t.types) h.0 h.1))

-- ---- values

value_at : (t : Table) (ids : List (Option TypeId)) (n : ℕ) → slice_get (value_types t ids) n ≡ option_map (value_type t) (slice_get ids n)
value_at t ids n = slice_get-map (value_type t) ids n

pub no_value : (t : Table) (ids : List (Option TypeId)) (n : ℕ) → slice_get ids n ≡ None → Answers (GivesValue (value_types t ids) n) None
no_value t ids n e = answers_none (GivesValue (value_types t ids) n) (λ ty h. none_some (Some ty) (sym (value_at t ids n ∙ ap (option_map (value_type t)) e) ∙ h))

pub empty_value : (t : Table) (ids : List (Option TypeId)) (n : ℕ) → slice_get ids n ≡ Some None → Answers (GivesValue (value_types t ids) n) None
empty_value t ids n e = answers_none (GivesValue (value_types t ids) n) (λ ty h.
    none_some ty (some_same None (Some ty) (sym (value_at t ids n ∙ ap (option_map (value_type t)) e) ∙ h)))

pub known_value : (t : Table) (ids : List (Option TypeId)) (n : ℕ) (id : TypeId) (r : Option ShadeType) → slice_get ids n ≡ Some (Some id) → r ≡ type_at t id → Answers (GivesValue (value_types t ids) n) r
known_value t ids n id r e at ty =
    let is : slice_get (value_types t ids) n ≡ Some r = value_at t ids n ∙ (ap (option_map (value_type t)) e ∙ ap Some (sym at)) in (
      λ h. some_same r (Some ty) (sym is ∙ h),
      λ h. is ∙ ap Some h,
    )

-- Rule: what a `struct` declares. (WGSL, "Structure Types".) It becomes a new type of the table, with the names and the types of its members. Members
-- are plain data, so none is a pointer, and arrays and structs are nested at most so deep: else the rule of templates fails at the first token of
-- the declaration. The rule of sizes fails at its name where it has too many bytes.
use Rattle.std.specs.Prelude.{◌≡◌, ◌⊎◌, ℕ, Bool, true, false, ◌||◌, List, [], ◌∷◌, length, Option, None, Some, slice_get, nat_lt}
use Rattle.std.specs.List.{flat_map, list_any}
use Rattle.shade_base.specs.declared.place.Place.{Place}
use Rattle.shade_values.specs.declared.types.ShadeType.{ShadeType}
use Rattle.shade_values.specs.declared.types.TypeId.{TypeId}
use Rattle.shade_values.specs.Layouts.{IsLarge}
use Rattle.shade_values.specs.Kept.{struct_shape}
use Rattle.shade_values.specs.Table.{Table, with_struct}
use Rattle.shade_core.specs.Types.{greatest_nesting, nesting}
use Rattle.shade_known.specs.declared.known.Known.{Known}
use Rattle.shade_known.specs.declared.known.What.TheVariants as what
use Rattle.shade_known.specs.declared.fault.TypingFault.{TypingFault}
use Rattle.shade_known.specs.declared.fault.TypingFault.TheVariants as fault
use Rattle.shade_known.specs.declared.fault.TypeRule.TheVariants as rule
use Rattle.shade_known.specs.Keeps.{with_fact}
use Rattle.shade_steps.specs.declared.step.MemberParts.{MemberParts}
use Rattle.shade_calls.specs.Templates.{is_pointer, type_named}
use Rattle.shade_declarations.specs.Types.{written_id}

-- ---- members

abbrev pub or_empty : Option (List ℕ) → List ℕ
or_empty None = []
or_empty (Some text) = text

-- the text of the name with a number
abbrev pub text_of : List (List ℕ) → ℕ → List ℕ
text_of names n = or_empty (slice_get names n)

abbrev pub member_by : Option TypeId → Option ShadeType → List ℕ → List (List ℕ × TypeId)
member_by (Some id) (Some ty) text = (text, id) ∷ []
member_by id ty text = []

-- a member by its name and its type; one without a type is none
abbrev pub member_of : Known → List (List ℕ) → MemberParts → List (List ℕ × TypeId)
member_of k names m = member_by (written_id k m.ty) (type_named k.types (written_id k m.ty)) (text_of names m.name.name)

abbrev pub members_of : Known → List (List ℕ) → List MemberParts → List (List ℕ × TypeId)
members_of k names members = flat_map (member_of k names) members

-- ---- what is no struct

abbrev pub is_pointer_type : Option ShadeType → Bool
is_pointer_type None = false
is_pointer_type (Some ty) = is_pointer ty

abbrev pub is_none : List (List ℕ × TypeId) → Bool
is_none [] = true
is_none (m ∷ ms) = false

abbrev pub is_no_struct : Table → List (List ℕ × TypeId) → Bool
is_no_struct t ms = is_none ms || (list_any (λ m. is_pointer_type (slice_get t.types m.1.0)) ms || nat_lt greatest_nesting (nesting (struct_shape t ms)))

-- why it is refused, at its first token or at its name: also where there is no memory
abbrev pub IsRefused : Table → List (List ℕ × TypeId) → Place → Place → TypingFault → Type 0
IsRefused t ms place at (fault.Rule p broken) =
    ((fault.Rule p broken ≡ fault.Rule place rule.Template) × (is_no_struct t ms ≡ true))
    ⊎ ((fault.Rule p broken ≡ fault.Rule at rule.Size) × (is_no_struct t ms ≡ false) × IsLarge (struct_shape t ms))
IsRefused t ms place at (fault.OutOfProfile p word) = ⊥
IsRefused t ms place at (fault.Constant f) = ⊥
IsRefused t ms place at fault.NoMemory = Unit {0}

-- ---- what is known then

pub record IsDeclared (old new : Known) (name : List ℕ) (ms : List (List ℕ × TypeId)) (node : ℕ) : Type 0 where
  pub fits : is_no_struct old.types ms ≡ false
  pub small : ¬ IsLarge (struct_shape old.types ms)
  pub types : new.types ≡ with_struct old.types name ms
  pub fact : (id : TypeId) × (id.0 ≡ length old.types.types) × (new.facts ≡ with_fact old.facts node (what.Type id false))

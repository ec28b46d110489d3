-- What the code keeps of each type of a table, from what it keeps of the types before it.
use Rattle.std.specs.Prelude.{◌≡◌, ℕ, map, Bool, true, false, List, [], ◌∷◌, slice_index_or, if◌then◌else◌}
use Rattle.std.specs.List.{list_all, list_any}
use Rattle.shade_values.specs.declared.types.Scalar.{Scalar}
use Rattle.shade_values.specs.declared.types.Scalar.TheVariants as scalar
use Rattle.shade_values.specs.declared.types.ShadeType.{ShadeType}
use Rattle.shade_values.specs.declared.types.ShadeType.TheVariants as type
use Rattle.shade_values.specs.declared.types.TypeId.{TypeId}
use Rattle.shade_values.specs.Table.{Table, StructView, members_at}
use Rattle.shade_values.specs.Shape.{Shape, shapes}
use Rattle.shade_values.specs.Sound.{IsSound}
use Rattle.shade_values.specs.Layouts.{is_loadable}
use Rattle.shade_core.specs.Types.{is_known, is_word, is_data, is_endless, is_buffer, holds_bool, holds_atomic}
use Rattle.shade_shape.specs.declared.facts.TypeFacts.{TypeFacts}

-- what is kept of a type
abbrev pub facts_of : Shape → TypeFacts
facts_of shape = record {
  plain = is_data shape;
  loadable = is_loadable shape;
  endless = is_endless shape;
  buffer = is_buffer shape;
  holds_bool = holds_bool shape;
  holds_atomic = holds_atomic shape;
}

abbrev pub is_bool : Scalar → Bool
is_bool scalar.Bool = true
is_bool scalar.I32 = false
is_bool scalar.U32 = false
is_bool scalar.Abstract = false

abbrev pub pointer_facts : TypeFacts
pointer_facts = record { plain = false; loadable = false; endless = false; buffer = false; holds_bool = false; holds_atomic = false }

abbrev pub fact_in : List TypeFacts → TypeId → TypeFacts
fact_in known id = slice_index_or known id.0 pointer_facts

abbrev pub scalar_facts : Scalar → TypeFacts
scalar_facts s = record { plain = is_known s; loadable = true; endless = false; buffer = is_known s; holds_bool = is_bool s; holds_atomic = false }

abbrev pub atomic_facts : Scalar → TypeFacts
atomic_facts s = record { plain = is_word s; loadable = false; endless = false; buffer = is_word s; holds_bool = false; holds_atomic = true }

abbrev pub exchanged_facts : Scalar → TypeFacts
exchanged_facts s = record { plain = is_word s; loadable = true; endless = false; buffer = is_word s; holds_bool = true; holds_atomic = false }

abbrev pub array_facts : TypeFacts → TypeFacts
array_facts f = record { plain = f.plain; loadable = f.loadable; endless = false; buffer = f.plain; holds_bool = f.holds_bool; holds_atomic = f.holds_atomic }

abbrev pub runtime_facts : TypeFacts → TypeFacts
runtime_facts f = record { plain = false; loadable = false; endless = f.plain; buffer = f.plain; holds_bool = f.holds_bool; holds_atomic = f.holds_atomic }

abbrev pub is_none : List (List ℕ × TypeId) → Bool
is_none [] = true
is_none (m ∷ ms) = false

-- members of plain data, the last of which may be a runtime-sized array; none may follow where one was met
abbrev pub ends_by : List TypeFacts → Bool → List (List ℕ × TypeId) → Bool
ends_by known true ms = is_none ms
ends_by known false [] = true
ends_by known false (m ∷ ms) =
    if (fact_in known m.1).plain then ends_by known false ms else if (fact_in known m.1).endless then is_none ms else false

abbrev pub struct_facts : List TypeFacts → List (List ℕ × TypeId) → TypeFacts
struct_facts known ms = record {
  plain = list_all (λ m. (fact_in known m.1).plain) ms;
  loadable = list_all (λ m. (fact_in known m.1).loadable) ms;
  endless = false;
  buffer = ends_by known false ms;
  holds_bool = list_any (λ m. (fact_in known m.1).holds_bool) ms;
  holds_atomic = list_any (λ m. (fact_in known m.1).holds_atomic) ms;
}

abbrev pub facts_by : List TypeFacts → List StructView → ShadeType → TypeFacts
facts_by known structs (type.Plain s) = scalar_facts s
facts_by known structs (type.Vector parts s) = scalar_facts s
facts_by known structs (type.Array element count) = array_facts (fact_in known element)
facts_by known structs (type.RuntimeArray element) = runtime_facts (fact_in known element)
facts_by known structs (type.Atomic s) = atomic_facts s
facts_by known structs (type.Struct number) = struct_facts known (members_at structs number)
facts_by known structs (type.Exchanged s) = exchanged_facts s
facts_by known structs (type.Pointer in_space pointee access) = pointer_facts

-- what is kept of each type of a table, in which each type leads to earlier ones
pub record AreFacts (t : Table) (facts : List TypeFacts) : Type 0 where
  pub are : facts ≡ map facts_of (shapes t)
  pub sound : IsSound t

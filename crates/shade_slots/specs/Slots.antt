-- Rules: where the values of a function's frame lie in the words of the frame: the parameters, three words for each parameter that may be a
-- pointer, the local variables and the values of statements, one behind the other.
use Rattle.std.specs.Prelude.{◌≡◌, ℕ, ◌+◌, ◌*◌, ◌<◌, List, [], ◌∷◌, map, length, Option, None, Some}
use Rattle.shade_values.specs.declared.types.TypeId.{TypeId}
use Rattle.shade_values.specs.Table.{Table}
use Rattle.shade_words.specs.Lays.{size}
use Rattle.shade_words.specs.Types.{lay}
use Rattle.shade_slots.specs.declared.slot.Slot.{Slot}
use Rattle.shade_slots.specs.declared.layout.FrameLayout.{FrameLayout}

-- how many words a value of a type has; none where there is no value
abbrev pub size_of : Table → Option TypeId → ℕ
size_of t None = 0
size_of t (Some id) = size (lay t id)

-- slots of values of these types, the first at a place and each behind the one before
abbrev pub slots_from : Table → ℕ → List (Option TypeId) → List Slot
slots_from t at [] = []
slots_from t at (ty ∷ types) = record { first = at; ty = ty } ∷ slots_from t (at + size_of t ty) types

-- where they end
abbrev pub end_from : Table → ℕ → List (Option TypeId) → ℕ
end_from t at [] = at
end_from t at (ty ∷ types) = end_from t (at + size_of t ty) types

-- types of the table
abbrev pub IsKnown : Table → Option TypeId → Type 0
IsKnown t None = Unit {0}
IsKnown t (Some id) = id.0 < length t.types

-- how many words a pointer takes: the space and the depth of its variable, the number of it, and the first word there
abbrev pub pointer_words : ℕ
pointer_words = 3

-- the layout of a frame with these parameters, local variables and values of statements
pub record IsLayout (t : Table) (param_types : List (Option TypeId)) (local_types : List TypeId) (value_types : List (Option TypeId)) (layout : FrameLayout) : Type 0 where
  pub params : layout.params.items ≡ slots_from t 0 param_types
  pub pointers : layout.pointers ≡ end_from t 0 param_types
  pub locals : layout.locals.items ≡ slots_from t (layout.pointers + pointer_words * length param_types) (map (λ id. Some id) local_types)
  pub values : layout.values.items ≡ slots_from t (end_from t (layout.pointers + pointer_words * length param_types) (map (λ id. Some id) local_types)) value_types
  pub size : layout.size ≡ end_from t (end_from t (layout.pointers + pointer_words * length param_types) (map (λ id. Some id) local_types)) value_types

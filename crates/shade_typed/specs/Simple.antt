-- The types of a table that operations give without naming them.
use Rattle.std.specs.Prelude.{◌≡◌, ◌<◌, Bool, true, false, List, Some, length, All, Contains, IsTrue}
use Rattle.shade_values.specs.declared.types.ShadeType.{ShadeType}
use Rattle.shade_values.specs.declared.types.ShadeType.TheVariants as type
use Rattle.shade_values.specs.declared.types.TypeId.{TypeId}
use Rattle.shade_values.specs.Table.{Table}
use Rattle.shade_core.specs.Types.{type_at}

-- a scalar, a vector, or the result of an exchange
abbrev pub is_simple : ShadeType → Bool
is_simple (type.Plain s) = true
is_simple (type.Vector parts s) = true
is_simple (type.Exchanged s) = true
is_simple _ = false

-- the ids of all of them
pub record AreSimple (t : Table) (ids : List TypeId) : Type 0 where
  pub below : All (λ id. id.0 < length t.types) ids
  pub all : (id : TypeId) (ty : ShadeType) → type_at t id ≡ Some ty → IsTrue (is_simple ty) → Contains ids id

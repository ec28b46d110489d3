-- What contracts see of a table of types.
use Rattle.std.specs.Prelude.{ℕ, List, [], ◌∷◌, ◌++◌, length, slice_index_or}
use Rattle.shade_values.specs.declared.types.ShadeType.{ShadeType}
use Rattle.shade_values.specs.declared.types.ShadeType.TheVariants.{Struct}
use Rattle.shade_values.specs.declared.types.TypeId.{TypeId}

-- a struct's name, and its members: the name and the type of each
pub record StructView : Type 0 where
  pub name : List ℕ
  pub members : List (List ℕ × TypeId)

-- type number n stands at place n, and so does struct number n
pub record Table : Type 0 where
  pub types : List ShadeType
  pub structs : List StructView

abbrev pub no_types : Table
no_types = record { types = []; structs = [] }

abbrev pub no_struct : StructView
no_struct = record { name = []; members = [] }

abbrev pub members_at : List StructView → ℕ → List (List ℕ × TypeId)
members_at structs number = (slice_index_or structs number no_struct).members

-- the table with one more type
abbrev pub with_type : Table → ShadeType → Table
with_type t ty = record t { types = t.types ++ ty ∷ [] }

-- the table with one more struct
abbrev pub with_struct : Table → List ℕ → List (List ℕ × TypeId) → Table
with_struct t name members = record {
  types = t.types ++ Struct (length t.structs) ∷ [];
  structs = t.structs ++ (record { name = name; members = members }) ∷ [];
}

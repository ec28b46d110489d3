-- Which types a module may hold where. (WGSL, "Types".)
use Rattle.std.specs.Prelude.{◌≡◌, ℕ, ◌+◌, ◌≤◌, Bool, true, false, ◌&&◌, ◌||◌, not, max, List, Option, None, Some, slice_get, Contains, option_and_then, IsTrue}
use Rattle.shade_values.specs.declared.types.Scalar.{Scalar}
use Rattle.shade_values.specs.declared.types.Scalar.TheVariants as scalar
use Rattle.shade_values.specs.declared.types.ShadeType.{ShadeType}
use Rattle.shade_values.specs.declared.types.ShadeType.TheVariants as type
use Rattle.shade_values.specs.declared.types.TypeId.{TypeId}
use Rattle.shade_values.specs.Sound.{IsSound}
use Rattle.shade_values.specs.Table.{Table}
use Rattle.shade_values.specs.Shape.{Shape, plain, vector, array, runtime_array, atomic, structure, exchanged, pointer, Shapes, no_member, member, shape_of, shapes, spell}
use Rattle.shade_values.specs.Layouts.{is_loadable}

-- all scalars but AbstractInt
abbrev pub is_known : Scalar → Bool
is_known scalar.Abstract = false
is_known scalar.Bool = true
is_known scalar.I32 = true
is_known scalar.U32 = true

-- the scalars of atomics
abbrev pub is_word : Scalar → Bool
is_word scalar.I32 = true
is_word scalar.U32 = true
is_word scalar.Bool = false
is_word scalar.Abstract = false

-- Plain data without AbstractInt: scalars, vectors, atomics of i32 or u32, and arrays and structs of such data. The result of
-- `atomicCompareExchangeWeak` is such a struct.
abbrev mutual
  pub is_data : Shape → Bool
  is_data (plain s) = is_known s
  is_data (vector parts s) = is_known s
  is_data (array element count) = is_data element
  is_data (runtime_array element) = false
  is_data (atomic s) = is_word s
  is_data (structure members) = are_data members
  is_data (exchanged s) = is_word s
  is_data pointer = false

  pub are_data : Shapes → Bool
  are_data no_member = true
  are_data (member m ms) = is_data m && are_data ms

-- The types of values: plain data that holds no atomic, without AbstractInt. (WGSL, "Constructible Types".)
abbrev pub is_constructible : Shape → Bool
is_constructible shape = is_loadable shape && is_data shape

-- a runtime-sized array of plain data
abbrev pub is_endless : Shape → Bool
is_endless (runtime_array element) = is_data element
is_endless _ = false

-- plain data, of which the last may be a runtime-sized array
abbrev pub may_end_endless : Shapes → Bool
may_end_endless no_member = true
may_end_endless (member m no_member) = is_data m || is_endless m
may_end_endless (member m ms) = is_data m && may_end_endless ms

-- What a storage variable may hold: plain data, a runtime-sized array, or a struct whose last member is one.
abbrev pub is_buffer : Shape → Bool
is_buffer (structure members) = may_end_endless members
is_buffer shape = is_data shape || is_endless shape

abbrev mutual
  pub holds_bool : Shape → Bool
  holds_bool (plain scalar.Bool) = true
  holds_bool (plain _) = false
  holds_bool (vector parts scalar.Bool) = true
  holds_bool (vector parts _) = false
  holds_bool (array element count) = holds_bool element
  holds_bool (runtime_array element) = holds_bool element
  holds_bool (atomic s) = false
  holds_bool (structure members) = hold_bool members
  holds_bool (exchanged s) = true
  holds_bool pointer = false

  pub hold_bool : Shapes → Bool
  hold_bool no_member = false
  hold_bool (member m ms) = holds_bool m || hold_bool ms

abbrev mutual
  pub holds_atomic : Shape → Bool
  holds_atomic (plain s) = false
  holds_atomic (vector parts s) = false
  holds_atomic (array element count) = holds_atomic element
  holds_atomic (runtime_array element) = holds_atomic element
  holds_atomic (atomic s) = true
  holds_atomic (structure members) = hold_atomic members
  holds_atomic (exchanged s) = false
  holds_atomic pointer = false

  pub hold_atomic : Shapes → Bool
  hold_atomic no_member = false
  hold_atomic (member m ms) = holds_atomic m || hold_atomic ms

-- how deep arrays and structs are nested
abbrev mutual
  pub nesting : Shape → ℕ
  nesting (plain s) = 0
  nesting (vector parts s) = 0
  nesting (array element count) = nesting element + 1
  nesting (runtime_array element) = nesting element + 1
  nesting (atomic s) = 0
  nesting (structure members) = nestings members + 1
  nesting (exchanged s) = 1
  nesting pointer = 0

  pub nestings : Shapes → ℕ
  nestings no_member = 0
  nestings (member m ms) = max (nesting m) (nestings ms)

abbrev pub greatest_nesting : ℕ
greatest_nesting = 255

-- ---- types of a table

-- the type at an id
abbrev pub type_at : Table → TypeId → Option ShadeType
type_at t id = slice_get t.types id.0

-- the shape of a type over the ids of a table
abbrev pub spelled : Table → ShadeType → Shape
spelled t ty = spell t.structs (shapes t) ty

-- a type whose values a shader may hold
abbrev pub IsConstructible : Table → ShadeType → Type 0
IsConstructible t ty = IsTrue (is_constructible (spelled t ty))

-- a type that the table holds and whose values a shader may hold
pub record IsHeld (t : Table) (ty : ShadeType) : Type 0 where
  pub held : Contains t.types ty
  pub constructible : IsConstructible t ty

-- the id of such a type
abbrev pub NamesHeld : Table → TypeId → Type 0
NamesHeld t id = (ty : ShadeType) × (type_at t id ≡ Some ty) × IsConstructible t ty

-- The types of a table are types of the standard, each over those before it and none twice; each is nested at most 255 deep, and the scalar
-- of each atomic is there. (WGSL, "Composite Types".)
pub record IsTable (t : Table) : Type 0 where
  pub sound : IsSound t
  pub nested : (id : TypeId) (ty : ShadeType) → type_at t id ≡ Some ty → nesting (spelled t ty) ≤ greatest_nesting
  pub scalars : (s : Scalar) → Contains t.types (type.Atomic s) → Contains t.types (type.Plain s)

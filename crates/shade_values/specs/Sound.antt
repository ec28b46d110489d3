-- What holds of each table of types.
use Rattle.std.specs.Prelude.{◌≡◌, ℕ, ◌+◌, ◌<◌, ◌≤◌, List, length, Some, slice_get, All, Contains}
use Rattle.shade_values.specs.declared.types.ShadeType.{ShadeType}
use Rattle.shade_values.specs.declared.types.ShadeType.TheVariants.{Plain, Vector, Array, RuntimeArray, Atomic, Struct, Exchanged, Pointer}
use Rattle.shade_values.specs.declared.types.TypeId.{TypeId}
use Rattle.shade_values.specs.Table.{Table, StructView, members_at}

-- members of known types
abbrev pub AreKnown : ℕ → List (List ℕ × TypeId) → Type 0
AreKnown n members = All (λ m. m.1.0 < n) members

-- a type over the ids below n and the structs of a table: 2 to 4 parts of a vector, at least one element of an array and one
-- member of a struct
abbrev pub IsOver : ℕ → List StructView → ShadeType → Type 0
IsOver n structs (Plain scalar) = Unit {0}
IsOver n structs (Vector parts scalar) = (2 ≤ parts) × (parts ≤ 4)
IsOver n structs (Array element count) = (element.0 < n) × (0 < count)
IsOver n structs (RuntimeArray element) = element.0 < n
IsOver n structs (Atomic scalar) = Unit {0}
IsOver n structs (Struct number) = (number < length structs) × (0 < length (members_at structs number)) × AreKnown n (members_at structs number)
IsOver n structs (Exchanged scalar) = Unit {0}
IsOver n structs (Pointer space pointee access) = pointee.0 < n

-- a type that may be asked for: its ids and its struct are those of the table
abbrev pub IsOf : Table → ShadeType → Type 0
IsOf t ty = IsOver (length t.types) t.structs ty

pub record IsSound (t : Table) : Type 0 where
  -- each type leads to earlier ones
  pub over : (n : ℕ) (ty : ShadeType) → slice_get t.types n ≡ Some ty → IsOver n t.structs ty
  -- no type stands twice
  pub distinct : (m n : ℕ) (ty : ShadeType) → slice_get t.types m ≡ Some ty → slice_get t.types n ≡ Some ty → m ≡ n
  -- each struct is a type
  pub stand : (k : ℕ) → k < length t.structs → Contains t.types (Struct k)
  pub fewer : length t.structs ≤ length t.types

-- a table with at most one type more: what it had stays as it is
pub record Grows (old new : Table) : Type 0 where
  pub stay : (n : ℕ) (ty : ShadeType) → slice_get old.types n ≡ Some ty → slice_get new.types n ≡ Some ty
  pub longer : length old.types ≤ length new.types
  pub by_one : length new.types ≤ length old.types + 1
  pub structs : new.structs ≡ old.structs

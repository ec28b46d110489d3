-- The limits of a module that count over its variables and its types.
use Rattle.std.specs.Prelude.{◌≡◌, ℕ, ◌≤◌, List, Some, length, slice_get}
use Rattle.shade_values.specs.declared.types.ShadeType.{ShadeType}
use Rattle.shade_values.specs.declared.types.ShadeType.TheVariants as type
use Rattle.shade_values.specs.declared.types.Space.TheVariants as space
use Rattle.shade_values.specs.Table.{Table, StructView, members_at}
use Rattle.shade_core.specs.declared.module.Root.{Root}
use Rattle.shade_core.specs.Limits.{space_bytes}

pub record KeepsSpaceLimits (t : Table) (roots : List Root) : Type 0 where
  pub workgroup : space_bytes t space.Workgroup roots ≤ 16384
  pub private : space_bytes t space.Private roots ≤ 8192

abbrev pub KeepsMemberLimit : Table → Type 0
KeepsMemberLimit t = (k : ℕ) (s : StructView) → slice_get t.structs k ≡ Some s → length s.members ≤ 1023

-- the type is no struct of too many members
abbrev pub HasFewMembers : Table → ShadeType → Type 0
HasFewMembers t ty = (n : ℕ) → ty ≡ type.Struct n → length (members_at t.structs n) ≤ 1023

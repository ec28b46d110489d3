-- Which of some rows takes given argument types (WGSL, "Overload Resolution").
use Rattle.std.specs.Prelude.{List, Option, None, Some}
use Rattle.shade_values.specs.declared.types.Scalar.{Scalar}
use Rattle.shade_values.specs.declared.types.ShadeType.{ShadeType}
use Rattle.shade_overload.specs.declared.overload.Overload.{Overload}
use Rattle.shade_overload.specs.Conversions.{BecomeAll, AreNearer}

-- a row that takes the types, and lies at least as near to them as each other row that does
pub record IsBest (Rows : Overload → Type 0) (first : Scalar) (types : List ShadeType) (o : Overload) : Type 0 where
  pub row : Rows o
  pub taken : BecomeAll types o.params
  pub near : (other : Overload) → Rows other → BecomeAll types other.params → AreNearer first o.params other.params

-- no row takes the types
abbrev pub IsRefused : (Overload → Type 0) → List ShadeType → Type 0
IsRefused Rows types = (other : Overload) → Rows other → ¬ BecomeAll types other.params

-- the best row, or none where no row takes the types
abbrev pub IsChosen : (Overload → Type 0) → Scalar → List ShadeType → Option Overload → Type 0
IsChosen Rows first types (Some o) = IsBest Rows first types o
IsChosen Rows first types None = IsRefused Rows types

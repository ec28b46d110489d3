-- The types of values, one statement after another.
use Rattle.std.specs.Prelude.{◌≡◌, Bool, true, false, Option, None, Some}
use Rattle.shade_core.specs.Views.{ValueTypes}
use Rattle.shade_typed.specs.Contexts.{ContextView}

-- the types that were kept, if all statements fit
abbrev pub kept_values : Bool → ValueTypes → Option ValueTypes
kept_values true values = Some values
kept_values false values = None

pub record IsSameFunction (old new : ContextView) : Type 0 where
  pub shader : new.shader ≡ old.shader
  pub function : new.function ≡ old.function

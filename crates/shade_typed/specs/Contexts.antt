-- What is known where a statement is asked.
use Rattle.std.specs.Prelude.{◌≡◌, ◌<◌, ℕ, List, length, map, Option, None, Some, refl, option_map, slice_get, All, Contains, IfSome}
use Rattle.std.specs.Coded.{Coded, code_by, coded×, coded_list, coded_option}
use Rattle.shade_values.specs.declared.types.ShadeType.{ShadeType}
use Rattle.shade_values.specs.contracts.types.ShadeType as type_row
use Rattle.shade_values.specs.declared.types.TypeId.{TypeId}
use Rattle.shade_values.specs.Sound.{IsSound}
use Rattle.shade_values.specs.Table.{Table}
use Rattle.shade_core.specs.declared.module.CoreFunction.{CoreFunction}
use Rattle.shade_core.specs.contracts.module.CoreFunction as function_row
use Rattle.shade_core.specs.declared.module.CoreModule.{CoreModule}
use Rattle.shade_core.specs.contracts.module.CoreModule as module_row
use Rattle.shade_core.specs.Types.{type_at}
use Rattle.shade_core.specs.Views.{ValueTypes}
use Rattle.shade_typed.specs.declared.context.Typed.{Typed}
use Rattle.shade_typed.specs.Simple.{AreSimple}

-- a module, a function of it, and the types of the values that its statements gave so far
pub record ContextView : Type 0 where
  pub shader : CoreModule
  pub function : CoreFunction
  pub values : ValueTypes

abbrev pub context_code : Coded ContextView
context_code =
    code_by (CoreModule × (CoreFunction × List (Option ShadeType))) (coded× module_row.the_row.coded (coded× function_row.the_row.coded (coded_list (coded_option type_row.the_row.coded))))
    (λ c. (c.shader, (c.function, c.values))) (λ p. record { shader = p.0; function = p.1.0; values = p.1.1 }) (λ _. refl)

-- the type at an id, where there is an id
abbrev pub value_type : Table → Option TypeId → Option ShadeType
value_type t None = None
value_type t (Some id) = type_at t id

abbrev pub value_types : Table → List (Option TypeId) → ValueTypes
value_types t ids = map (value_type t) ids

-- no id, or one of the table
abbrev pub IdStands : Table → Option TypeId → Type 0
IdStands t None = Unit {0}
IdStands t (Some id) = id.0 < length t.types

-- the types that are used are those of the module, and each id names one
pub record IsContext (t own : Table) (simple : List TypeId) (known : List (Option TypeId)) : Type 0 where
  pub same : own ≡ t
  pub sound : IsSound t
  pub listed : AreSimple t simple
  pub stand : All (IdStands t) known

-- ---- types that are found

abbrev pub type_in : Option Typed → Option ShadeType
type_in found = option_map (λ x. x.ty) found

-- what is found has the type that stands at its id
abbrev pub StandsAt : Table → Option Typed → Type 0
StandsAt t found = IfSome found (λ x. type_at t x.id ≡ Some x.ty)

-- a type that the table has
abbrev pub IsThere : Table → ShadeType → ShadeType → Type 0
IsThere t wanted ty = (ty ≡ wanted) × Contains t.types ty

-- a statement gave a value of a type
abbrev pub GivesValue : ValueTypes → ℕ → ShadeType → Type 0
GivesValue values n ty = slice_get values n ≡ Some (Some ty)

-- ---- statements that fit: what they give, if they give a value

abbrev pub fit_in : Option (Option Typed) → Option (Option ShadeType)
fit_in fit = option_map type_in fit

abbrev pub FitStands : Table → Option (Option Typed) → Type 0
FitStands t fit = IfSome fit (StandsAt t)

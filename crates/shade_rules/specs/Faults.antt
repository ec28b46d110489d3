-- The first fault of behaviour of a module, and what is told of it. (WGSL, "Statement Behavior Analysis".)
use Rattle.std.specs.Prelude.{◌≡◌, ◌⊎◌, ℕ, true, List, take, All, Option, None, Some, IsSome, slice_get}
use Rattle.shade_base.specs.declared.place.Place.{Place}
use Rattle.shade_core.specs.declared.control.ControlFault.{ControlFault}
use Rattle.shade_core.specs.declared.control.ControlFault.TheVariants as control
use Rattle.shade_core.specs.declared.module.CoreFunction.{CoreFunction}
use Rattle.shade_core.specs.Code.{code_of}
use Rattle.shade_core.specs.Behaviour.{behaviour}
use Rattle.shade_core.specs.Control.{body_faults, HasNoBehaviourFault}
use Rattle.shade_core.specs.Places.{list_places}
use Rattle.shade_rules.specs.declared.fault.BehaviourFault.{BehaviourFault}
use Rattle.shade_rules.specs.declared.fault.BehaviourFault.TheVariants.{Empty, Escapes, ContinuingLeaves, NoReturn, NoMemory}

-- what is told of the fault of a statement at a place
abbrev pub told : ControlFault → Place → BehaviourFault
told control.Empty place = Empty place
told control.Escapes place = Escapes place
told control.ContinuingLeaves place = ContinuingLeaves place

abbrev pub IsNone : Option ControlFault → Type 0
IsNone fault = fault ≡ None

-- Of statements with these faults at these places, the first that has one tells this.
pub record IsFirst (faults : List (Option ControlFault)) (places : List Place) (fault : BehaviourFault) : Type 0 where
  pub number : ℕ
  pub what : ControlFault
  pub place : Place
  pub at : slice_get faults number ≡ Some (Some what)
  pub before : All IsNone (take number faults)
  pub stands : slice_get places number ≡ Some place
  pub is : fault ≡ told what place

-- The first fault of a function: that of its statements, and where they have none that control comes to its end though it gives a result.
pub data IsFirstIn (function : CoreFunction) : BehaviourFault → Type 0 where
  at_statement : {fault : BehaviourFault} → IsFirst (body_faults function) (list_places function.body) fault → IsFirstIn function fault
  at_end : All IsNone (body_faults function) → IsSome function.result → (behaviour (code_of function.body)).next ≡ true → IsFirstIn function (NoReturn function.place)

-- The first fault of a module: that of its first function that has one.
pub record IsFirstFault (functions : List CoreFunction) (fault : BehaviourFault) : Type 0 where
  pub number : ℕ
  pub function : CoreFunction
  pub at : slice_get functions number ≡ Some function
  pub before : All HasNoBehaviourFault (take number functions)
  pub first : IsFirstIn function fault

-- a module is refused for its first fault, or memory ran out
abbrev pub IsRefused : List CoreFunction → BehaviourFault → Type 0
IsRefused functions fault = (fault ≡ NoMemory) ⊎ IsFirstFault functions fault

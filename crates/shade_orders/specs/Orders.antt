-- A rule: what the order of lane steps does not change. An entry may be run by any list of lane numbers; where one list ended, the barriers
-- that were released and the words of the shared memory do not depend on which it was.
use Rattle.std.specs.Prelude.{◌≡◌, ℕ, true, List, Option, Some, None, IsTrue, slice_get}
use Rattle.shade_core.specs.Code.{code_of}
use Rattle.shade_core.specs.Standing.{statements, are_numbered}
use Rattle.shade_core.specs.declared.module.CoreFunction.{CoreFunction}
use Rattle.shade_core.specs.declared.module.CoreModule.{CoreModule}
use Rattle.shade_mem.specs.declared.inputs.Inputs.{Inputs}
use Rattle.shade_group.specs.Group.{Machine, begin, run, all_ended}
use Rattle.shade_schedules.specs.Words.{Address, word_at}

-- No list of steps diverges where one ended, and each that ends releases the same instances in the same order, and leaves the same words.
pub record Agrees (reference other : Machine) : Type 0 where
  pub converges : other.diverged ≡ None
  pub released : all_ended other.members ≡ true → other.released ≡ reference.released
  pub words : all_ended other.members ≡ true → (a : Address) → word_at other.memory a ≡ word_at reference.memory a

-- the statements of a function are numbered in structure order, where there is one
abbrev pub is_numbered : Option CoreFunction → Type 0
is_numbered None = Unit {0}
is_numbered (Some function) = IsTrue (are_numbered 0 (statements (code_of function.body)))

-- a run that ended: no two lanes stopped unlike each other, and all are over
pub record HasEnded (machine : Machine) : Type 0 where
  pub converges : machine.diverged ≡ None
  pub over : all_ended machine.members ≡ true

-- Where some list of steps of an entry ended, every list of steps agrees with it. Nothing is asked of the verdict.
abbrev pub OrdersAgree : Type 0
OrdersAgree =
    (shader : CoreModule) (inputs : Inputs) (reference steps : List ℕ) → is_numbered (slice_get shader.functions inputs.entry)
    → HasEnded (run (begin shader inputs) reference) → Agrees (run (begin shader inputs) reference) (run (begin shader inputs) steps)

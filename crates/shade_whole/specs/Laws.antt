-- What the shape of a module gives the layers behind it, where its functions have rules there.
use Rattle.std.specs.Prelude.{◌≡◌, ℕ, ◌<◌, ◌^◌, true, Some, IsSome, length, slice_get}
use Rattle.std.specs.List.{list_all}
use Rattle.shade_core.specs.declared.module.CoreFunction.{CoreFunction}
use Rattle.shade_core.specs.declared.module.CoreModule.{CoreModule}
use Rattle.shade_core.specs.HasShape.{HasShape}
use Rattle.shade_core.specs.Rules.{has_rules}
use Rattle.shade_core.specs.Code.{code_of}
use Rattle.shade_core.specs.Standing.{AreNumbered, statements}
use Rattle.shade_chains.specs.Keeps.{MakeNoCycle}
use Rattle.shade_flow.specs.Counted.{is_counted}
use Rattle.shade_group.specs.Group.{IsRunnable}
use Rattle.shade_rules.specs.Few.{calls_take_few}

-- The statements of a module of the shape are numbered in structure order.
abbrev pub StatementsAreNumbered : Type 0
StatementsAreNumbered = (shader : CoreModule) → HasShape shader → AreNumbered shader.functions

-- a function that is there and that the machine runs
pub record Starts (shader : CoreModule) (k : ℕ) : Type 0 where
  pub known : k < length shader.functions
  pub runs : IsRunnable shader k

-- Each entry of a module of the shape that has rules can be started.
abbrev pub EntriesRun : Type 0
EntriesRun = (shader : CoreModule) → HasShape shader → (k : ℕ) (f : CoreFunction) → slice_get shader.functions k ≡ Some f → IsSome f.entry → has_rules f ≡ true → Starts shader k

-- what is asked of a module before its calls are looked at for aliases
pub record HasOrder (shader : CoreModule) : Type 0 where
  pub few : length shader.functions < 2 ^ 32
  pub few_arguments : list_all calls_take_few shader.functions ≡ true
  pub acyclic : MakeNoCycle shader

-- The calls of each module of the shape may be looked at.
abbrev pub CallsHaveOrder : Type 0
CallsHaveOrder = (shader : CoreModule) → HasShape shader → HasOrder shader

-- What reaches the statements of a function may be asked of each function of a module of the shape that has fewer than 2 ^ 31 statements.
abbrev pub FunctionsAreCounted : Type 0
FunctionsAreCounted =
    (shader : CoreModule) → HasShape shader → (k : ℕ) (f : CoreFunction) → slice_get shader.functions k ≡ Some f → length (statements (code_of f.body)) < 2 ^ 31 → is_counted f ≡ true

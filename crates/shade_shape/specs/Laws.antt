-- What the shape of a module gives the layers behind it.
use Rattle.std.specs.Prelude.{◌≡◌, ℕ, ◌<◌, ◌≤◌, ◌^◌, List, None, Some, length, slice_get, IsTrue}
use Rattle.shade_core.specs.declared.module.CoreFunction.{CoreFunction}
use Rattle.shade_core.specs.declared.module.CoreModule.{CoreModule}
use Rattle.shade_core.specs.Code.{code_of}
use Rattle.shade_core.specs.Standing.{statements, are_numbered}
use Rattle.shade_core.specs.Limits.{lane_count}
use Rattle.shade_core.specs.HasShape.{HasShape, ends_with_return}

-- an entry of 1 to 256 lanes, with no result and a Return at its end
pub record IsStarted (f : CoreFunction) (size : List ℕ) : Type 0 where
  pub some : 1 ≤ lane_count size
  pub most : lane_count size ≤ 256
  pub resultless : f.result ≡ None
  pub ends : IsTrue (ends_with_return f.body)

-- Each entry of a module of the shape can be started.
abbrev pub EntriesStart : Type 0
EntriesStart = (shader : CoreModule) → HasShape shader → (k : ℕ) (f : CoreFunction) (size : List ℕ) → slice_get shader.functions k ≡ Some f → f.entry ≡ Some size → IsStarted f size

-- functions, their parameters and their statements have numbers of 32 bits, and those of the statements are in order
pub record IsNumbered (shader : CoreModule) (f : CoreFunction) : Type 0 where
  pub functions : length shader.functions < 2 ^ 32
  pub params : length f.params ≤ 255
  pub numbered : IsTrue (are_numbered 0 (statements (code_of f.body)))

-- Each function of a module of the shape is numbered so.
abbrev pub FunctionsAreNumbered : Type 0
FunctionsAreNumbered = (shader : CoreModule) → HasShape shader → (k : ℕ) (f : CoreFunction) → slice_get shader.functions k ≡ Some f → IsNumbered shader f

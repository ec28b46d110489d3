-- The statements of the functions of a module, and what each function keeps.
use Rattle.std.specs.Prelude.{◌≡◌, ℕ, ◌+◌, min, List, [], All, IsTrue, Option, None, Some, length, slice_get}
use Rattle.shade_core.specs.declared.module.CoreFunction.{CoreFunction}
use Rattle.shade_core.specs.declared.module.CoreModule.{CoreModule}
use Rattle.shade_core.specs.Code.{code_of}
use Rattle.shade_core.specs.HasShape.{Ends, IsBody, SwitchIs}
use Rattle.shade_core.specs.Scopes.{in_scope}
use Rattle.shade_core.specs.Standing.{are_numbered, statements}
use Rattle.shade_core.specs.Limits.{AtMost, Depth, InstanceWords, LaneBytes, local_bytes, value_bytes}
use Rattle.shade_core.specs.Views.{ValueTypes}
use Rattle.shade_chains.specs.declared.chains.Measure.TheVariants.{Bytes}
use Rattle.shade_chains.specs.Keeps.{HasBytes, MakeNoCycle}
use Rattle.shade_chains.specs.Tops.{cap}

-- the bytes that a function keeps, of its locals and of values of these types; the greatest number of 32 bits for more
abbrev pub kept_bytes : CoreModule → CoreFunction → ValueTypes → ℕ
kept_bytes shader f values = min (cap Bytes) (local_bytes shader.types f + value_bytes shader.types values)

-- what is found of the statements of a function: the bytes that it keeps with the only types that its values may have
abbrev pub IsKept : CoreModule → CoreFunction → Option ℕ → Type 0
IsKept shader f None = (values : ValueTypes) → ¬ IsBody shader f values
IsKept shader f (Some bytes) = (values : ValueTypes) × IsBody shader f values × (bytes ≡ kept_bytes shader f values) × ((other : ValueTypes) → IsBody shader f other → values ≡ other)

-- the statements of a function stand as they may, whatever types they take
pub record IsFramed (f : CoreFunction) : Type 0 where
  pub numbered : IsTrue (are_numbered 0 (statements (code_of f.body)))
  pub scoped : IsTrue (in_scope [] (code_of f.body))
  pub switches : All (λ s. SwitchIs s.head) (statements (code_of f.body))
  pub ends : Ends f.result f.body

-- all functions have statements as they may
abbrev pub AreBodies : CoreModule → (ℕ → ValueTypes) → Type 0
AreBodies shader values = (k : ℕ) (f : CoreFunction) → slice_get shader.functions k ≡ Some f → IsBody shader f (values k)

-- what is found of the statements of all functions: the bytes that each one keeps
pub record AreKept (shader : CoreModule) (bytes : List ℕ) : Type 0 where
  pub long : length bytes ≡ length shader.functions
  pub values : ℕ → ValueTypes
  pub bodies : AreBodies shader values
  pub each : (others : ℕ → ValueTypes) → AreBodies shader others → HasBytes shader others bytes

-- calls make no cycle, and chains of calls from an entry keep their limits
pub record KeepsChains (shader : CoreModule) (values : ℕ → ValueTypes) : Type 0 where
  pub acyclic : MakeNoCycle shader
  pub lane : AtMost shader (LaneBytes shader values) 262144
  pub depth : AtMost shader (Depth shader) 32
  pub words : AtMost shader (InstanceWords shader) 128

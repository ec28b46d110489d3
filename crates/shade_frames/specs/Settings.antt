-- Rules: what a setting is of a module, one of its functions as the entry, and the memory of a run.
use Rattle.std.specs.Prelude.{◌≡◌, ℕ, Some, slice_get}
use Rattle.shade_core.specs.declared.module.CoreFunction.{CoreFunction}
use Rattle.shade_core.specs.declared.module.CoreModule.{CoreModule}
use Rattle.shade_core.specs.Code.{code_of}
use Rattle.shade_core.specs.Fits.{IsTyped}
use Rattle.shade_core.specs.Standing.{statements}
use Rattle.shade_spots.specs.Memory.{Memory, length_in}
use Rattle.shade_frames.specs.Frames.{Setting}

-- The types are those of the values of the module's statements, and each variable has as many words as in the memory. (No step changes how many
-- they are.)
pub record IsSetting (shader : CoreModule) (entry : ℕ) (memory : Memory) (s : Setting) : Type 0 where
  pub of_module : s.shader ≡ shader
  pub of_entry : s.entry ≡ entry
  pub typed : (k : ℕ) (f : CoreFunction) → slice_get shader.functions k ≡ Some f → IsTyped shader f (statements (code_of f.body)) (s.types k)
  pub lengths : (root : ℕ) → s.lengths root ≡ length_in memory root

-- What a run may be handed, and the memory that it starts with.
use Rattle.std.specs.Prelude.{◌≡◌, ℕ, ◌<◌, ◌≤◌, true, List, [], Option, Some, None, is_some, slice_get, slice_index}
use Rattle.shade_core.specs.declared.module.CoreFunction.{CoreFunction}
use Rattle.shade_core.specs.declared.module.CoreModule.{CoreModule}
use Rattle.shade_mem.specs.declared.inputs.Inputs.{Inputs}

-- the size of a workgroup of a function that is an entry
abbrev pub size_by : Option CoreFunction → Option (List ℕ)
size_by None = None
size_by (Some function) = function.entry

-- the size of a workgroup of the entry with this number
abbrev pub size_of : CoreModule → ℕ → Option (List ℕ)
size_of shader entry = size_by (slice_get shader.functions entry)

-- What a run of a module without roots may be handed: an entry, from 1 to 65,535 workgroups in each direction, one of them, and no words.
pub record IsAllowed (shader : CoreModule) (inputs : Inputs) : Type 0 where
  pub entry : is_some (size_of shader inputs.entry) ≡ true
  pub some : (i : ℕ) → i < 3 → 1 ≤ slice_index inputs.groups i
  pub most : (i : ℕ) → i < 3 → slice_index inputs.groups i ≤ 65535
  pub group : (i : ℕ) → i < 3 → slice_index inputs.group i < slice_index inputs.groups i
  pub rootless : shader.roots ≡ []
  pub words : inputs.words ≡ []

-- The words of each root at the start of a run: those that are handed in. (A module without roots has none. Roots in workgroup
-- memory, which begins as zero, have no case yet.)
abbrev pub start_words : CoreModule → List (List ℕ) → List (List ℕ)
start_words shader words = words

-- What the calls of a module are asked.
use Rattle.std.specs.Prelude.{◌≡◌, ℕ, ◌+◌, ◌<◌, ◌≤◌, min, Bool, true, nat_lt, List, length, Option, None, Some, IsSome, slice_get, slice_index_or}
use Rattle.shade_core.specs.declared.module.CoreFunction.{CoreFunction}
use Rattle.shade_core.specs.declared.module.CoreModule.{CoreModule}
use Rattle.shade_core.specs.Views.{ValueTypes}
use Rattle.shade_core.specs.Chains.{Calls, LeadsBy}
use Rattle.shade_core.specs.Limits.{AtMost, LaneBytes, Depth as DepthOf, InstanceWords, local_bytes, value_bytes}
use Rattle.shade_chains.specs.declared.chains.Measure.TheVariants.{Bytes}
use Rattle.shade_chains.specs.declared.events.Event.{Event}
use Rattle.shade_chains.specs.Tops.{cap, top_at}

-- each call is of a function that is there
abbrev pub CallsStand : CoreModule → Type 0
CallsStand shader = (k g : ℕ) → Calls shader k g → g < length shader.functions

-- how many bytes each function keeps, and the greatest number of 32 bits for more
abbrev pub HasBytes : CoreModule → (ℕ → ValueTypes) → List ℕ → Type 0
HasBytes shader values bytes =
    (k : ℕ) (f : CoreFunction) → slice_get shader.functions k ≡ Some f → min (cap Bytes) (local_bytes shader.types f + value_bytes shader.types (values k)) ≡ slice_index_or bytes k 0

abbrev pub MakeNoCycle : CoreModule → Type 0
MakeNoCycle shader = (k : ℕ) → ¬ LeadsBy shader k k

-- no entry has a greater sum
abbrev pub EntriesKeep : List CoreFunction → List (Option ℕ) → ℕ → Type 0
EntriesKeep functions tops most = (k : ℕ) (f : CoreFunction) → slice_get functions k ≡ Some f → IsSome f.entry → (best : ℕ) → top_at tops k ≡ Some best → best ≤ most

-- whether the function that an event calls is one of so many
abbrev pub callee_below : ℕ → Option ℕ → Bool
callee_below count None = true
callee_below count (Some g) = nat_lt g count

abbrev pub stands_below : ℕ → Event → Bool
stands_below count e = callee_below count e.callee

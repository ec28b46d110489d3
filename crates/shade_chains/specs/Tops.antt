-- The greatest sum over chains of calls, from what is known of the functions that are called.
use Rattle.std.specs.Prelude.{◌≡◌, ℕ, ◌+◌, ◌<◌, ◌≤◌, min, max, List, Option, None, Some, fold, length, map, slice_get, slice_index_or}
use Rattle.shade_core.specs.declared.module.CoreFunction.{CoreFunction}
use Rattle.shade_core.specs.declared.module.CoreModule.{CoreModule}
use Rattle.shade_core.specs.Code.{code_of}
use Rattle.shade_core.specs.Views.{ValueTypes}
use Rattle.shade_core.specs.Limits.{LaneBytes, Depth as DepthOf, InstanceWords, local_bytes, value_bytes}
use Rattle.shade_chains.specs.declared.events.Event.{Event}
use Rattle.shade_chains.specs.declared.chains.Measure.{Measure}
use Rattle.shade_chains.specs.declared.chains.Measure.TheVariants.{Bytes, Depth, Words}
use Rattle.shade_chains.specs.Events.{events}
use Rattle.shade_chains.specs.Orders.{Rows, RowCalls}

-- sums from this one on are kept as this one; it is above the limit
abbrev pub cap : Measure → ℕ
cap Bytes = 4294967295
cap Depth = 255
cap Words = 255

-- what is kept of some sums: the greatest one, if there is one
pub record IsTop (most : ℕ) (Adds : ℕ → Type 0) (top : Option ℕ) : Type 0 where
  pub above : (total : ℕ) → Adds total → (best : ℕ) × (top ≡ Some best) × (min most total ≤ best)
  pub reached : (best : ℕ) → top ≡ Some best → (total : ℕ) × Adds total × (min most total ≡ best)

-- what is known of a function
abbrev pub top_at : List (Option ℕ) → ℕ → Option ℕ
top_at tops g = slice_index_or tops g None

-- the words of a frame with so many loops open
abbrev pub frame : ℕ → ℕ
frame loops = min 255 (3 + loops)

-- what a function has where it calls another
abbrev pub own_part : Measure → ℕ → ℕ → ℕ
own_part Bytes bytes loops = bytes
own_part Depth bytes loops = 1
own_part Words bytes loops = frame loops

-- of a chain that ends with the function
abbrev pub last_part : Measure → ℕ → Option ℕ
last_part Bytes bytes = Some bytes
last_part Depth bytes = Some 1
last_part Words bytes = None

-- of a chain that ends where all lanes meet
abbrev pub meeting_part : Measure → ℕ → Option ℕ
meeting_part Bytes loops = None
meeting_part Depth loops = None
meeting_part Words loops = Some (frame loops)

abbrev pub summed : ℕ → ℕ → Option ℕ → Option ℕ
summed most own None = None
summed most own (Some rest) = Some (min most (own + rest))

abbrev pub callee_part : Measure → ℕ → List (Option ℕ) → ℕ → Option ℕ → Option ℕ
callee_part measure bytes tops loops None = meeting_part measure loops
callee_part measure bytes tops loops (Some g) = summed (cap measure) (own_part measure bytes loops) (top_at tops g)

abbrev pub event_part : Measure → ℕ → List (Option ℕ) → Event → Option ℕ
event_part measure bytes tops e = callee_part measure bytes tops e.loops e.callee

abbrev pub greater : Option ℕ → Option ℕ → Option ℕ
greater None b = b
greater (Some a) None = Some a
greater (Some a) (Some b) = Some (max a b)

-- the greatest sum of a function with these events
abbrev pub top_by : Measure → ℕ → List (Option ℕ) → List Event → Option ℕ
top_by measure bytes tops row = fold (λ best e. greater best (event_part measure bytes tops e)) (last_part measure bytes) row

-- each function that is called is there
abbrev pub CalleesStand : Rows → Type 0
CalleesStand rows = (k g : ℕ) → RowCalls rows k g → g < length rows

-- what is summed up over the chains of calls from a function
abbrev pub Sums : Measure → CoreModule → (ℕ → ValueTypes) → ℕ → ℕ → Type 0
Sums Bytes shader values = LaneBytes shader values
Sums Depth shader values = DepthOf shader
Sums Words shader values = InstanceWords shader

-- the events of each function
abbrev pub rows_in : List CoreFunction → Rows
rows_in functions = map (λ f. events 0 (code_of f.body)) functions

-- a module with these events, whose functions keep so many bytes
pub record HasEvents (shader : CoreModule) (values : ℕ → ValueTypes) (kept : List ℕ) (list : Rows) : Type 0 where
  pub rows : list ≡ rows_in shader.functions
  pub bytes : (k : ℕ) (f : CoreFunction) → slice_get shader.functions k ≡ Some f → min (cap Bytes) (local_bytes shader.types f + value_bytes shader.types (values k)) ≡ slice_index_or kept k 0

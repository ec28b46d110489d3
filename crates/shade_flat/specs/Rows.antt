-- Rules: when the words of a row are those of the calls that are open, one frame above the other.
use Rattle.std.specs.Prelude.{◌≡◌, ℕ, ◌+◌, ◌≤◌, List, [], ◌∷◌, Option, length, slice_get}
use Rattle.shade_values.specs.declared.types.TypeId.{TypeId}
use Rattle.shade_values.specs.declared.value.Value.{Value}
use Rattle.shade_slots.specs.declared.layout.FrameLayout.{FrameLayout}
use Rattle.shade_slots.specs.declared.slot.Slot.{Slot}
use Rattle.shade_slots.specs.Slots.{IsLayout, slots_from, end_from}
use Rattle.shade_frames.specs.Frames.{Setting, Frame, params_of, put_value}
use Rattle.shade_frames.specs.Lane.{Lane}
use Rattle.shade_flat.specs.declared.open.Open.{Open}

-- the layout of the frame of a function, which has a place for each parameter
pub record IsFrameOf (s : Setting) (function : ℕ) (layout : FrameLayout) : Type 0 where
  pub params : List (Option TypeId)
  pub locals : List TypeId
  pub values : List (Option TypeId)
  pub each : length params ≡ length (params_of (slice_get s.shader.functions function))
  pub laid : IsLayout s.shader.types params locals values layout

-- the slots of private variables, by the numbers of all variables of the module; they lie at the beginning of the row, before a place
pub record ArePrivates (s : Setting) (privates : List Slot) (end : ℕ) : Type 0 where
  pub types : List (Option TypeId)
  pub laid : privates ≡ slots_from s.shader.types 0 types
  pub within : end_from s.shader.types 0 types ≤ end

-- the frames of calls, given from the entry inwards: each one begins behind the end of the one outside of it, all of them between two places
abbrev pub Stacked : (ℕ → FrameLayout) → (from to : ℕ) → List Open → Type 0
Stacked layouts from to [] = from ≤ to
Stacked layouts from to (o ∷ opens) = (from ≤ o.base) × Stacked layouts (o.base + (layouts o.function).size) to opens

-- the innermost call, with a value that a statement gave
abbrev pub put_first : ℕ → Value → List Frame → List Frame
put_first n v [] = []
put_first n v (f ∷ frames) = put_value f n v ∷ frames

-- a lane in whose innermost call a statement gave a value
abbrev pub with_value : ℕ → Value → Lane → Lane
with_value n v lane = record lane { frames = put_first n v lane.frames }

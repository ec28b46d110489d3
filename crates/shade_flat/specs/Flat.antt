-- Rules: the lane that a row of words stands for. Any words are some lane: a value is read by its layout, and padding is not looked at.
use Rattle.std.specs.Prelude.{ℕ, zero, suc, ◌+◌, ◌*◌, ◌%◌, ◌^◌, nat_lt, List, [], ◌∷◌, Option, None, Some, if◌then◌else◌, slice_get, slice_index_or}
use Rattle.shade_values.specs.declared.types.ShadeType.{ShadeType}
use Rattle.shade_values.specs.declared.types.ShadeType.TheVariants as type
use Rattle.shade_values.specs.declared.types.TypeId.{TypeId}
use Rattle.shade_values.specs.declared.value.Value.{Value}
use Rattle.shade_values.specs.Shape.{Shape, pointer, shape_of}
use Rattle.shade_values.specs.Table.{Table}
use Rattle.shade_words.specs.Lays.{Lay, decode}
use Rattle.shade_words.specs.Types.{lay}
use Rattle.shade_words.specs.Ways.{no_lay}
use Rattle.shade_core.specs.declared.module.CoreModule.{CoreModule}
use Rattle.shade_core.specs.declared.module.CoreParam.{CoreParam}
use Rattle.shade_core.specs.declared.module.CoreParam.TheVariants as parameter
use Rattle.shade_core.specs.Types.{type_at}
use Rattle.shade_spots.specs.Roots.{no_spot}
use Rattle.shade_spots.specs.Spots.{Variable, shared, private, local, Spot}
use Rattle.shade_slots.specs.declared.slot.Slot.{Slot}
use Rattle.shade_slots.specs.declared.layout.FrameLayout.{FrameLayout}
use Rattle.shade_slots.specs.Slots.{size_of, pointer_words}
use Rattle.shade_frames.specs.Control.{Place}
use Rattle.shade_frames.specs.Frames.{Setting, Frame, params_of}
use Rattle.shade_frames.specs.Lane.{Lane, Own}
use Rattle.shade_flat.specs.declared.open.Open.{Open}

-- ---- values

abbrev pub slot_lay : Table → Option TypeId → Lay
slot_lay t None = no_lay
slot_lay t (Some id) = lay t id

-- what stands where there is no slot: no words
abbrev pub no_slot : Slot
no_slot = record { first = 0; ty = None }

abbrev pub slot_at : List Slot → ℕ → Slot
slot_at slots n = slice_index_or slots n no_slot

-- the value in a slot of the frame that begins at a base
abbrev pub slot_value : Table → (ℕ → ℕ) → (base : ℕ) → Slot → Value
slot_value t words base slot = decode (slot_lay t slot.ty) words (base + slot.first)

-- word i of a slot, and 0 past it
abbrev pub slot_word : Table → (ℕ → ℕ) → (base : ℕ) → Slot → (i : ℕ) → ℕ
slot_word t words base slot i = if nat_lt i (size_of t slot.ty) then words (base + slot.first + i) % 2 ^ 32 else 0

-- ---- pointers

-- the variable of a pointer: its first word is 0 for shared memory, 1 for private variables, and 2 more than its depth for a local one
abbrev pub variable_of : (kind number : ℕ) → Variable
variable_of zero number = shared number
variable_of (suc zero) number = private number
variable_of (suc (suc depth)) number = local depth number

abbrev pub spot_in : (ℕ → ℕ) → ℕ → Shape → Spot
spot_in words at shape = record { variable = variable_of (words at) (words (at + 1)); first = words (at + 2); shape = shape }

abbrev pub pointed_by : Table → Option ShadeType → Shape
pointed_by t (Some (type.Pointer in_space id access)) = shape_of t id
pointed_by t _ = pointer

-- what a parameter leads to, by the words of its pointer; a parameter that is no pointer leads nowhere
abbrev pub pointer_of : Table → (ℕ → ℕ) → (at : ℕ) → Option CoreParam → Spot
pointer_of t words at (Some (parameter.Pointer in_space id)) = spot_in words at (pointed_by t (type_at t id))
pointer_of t words at _ = no_spot

-- ---- frames

abbrev pub param_at : CoreModule → (function number : ℕ) → Option CoreParam
param_at shader function number = slice_get (params_of (slice_get shader.functions function)) number

-- the frame of an open call at a depth, where the layouts of all functions are given
abbrev pub frame_at : Setting → (layouts : ℕ → FrameLayout) → (ℕ → ℕ) → (depth : ℕ) → Open → Frame
frame_at s layouts words depth o = record {
  function = o.function;
  depth = depth;
  params = λ i. slot_value s.shader.types words o.base (slot_at (layouts o.function).params.items i);
  pointers = λ i. pointer_of s.shader.types words (o.base + (layouts o.function).pointers + pointer_words * i) (param_at s.shader o.function i);
  values = λ n. slot_value s.shader.types words o.base (slot_at (layouts o.function).values.items n);
}

-- the frames of open calls, of which the first one has a depth, inside of others
abbrev pub frames_inside : Setting → (ℕ → FrameLayout) → (ℕ → ℕ) → (depth : ℕ) → List Open → List Frame → List Frame
frames_inside s layouts words depth [] outer = outer
frames_inside s layouts words depth (o ∷ opens) outer = frames_inside s layouts words (depth + 1) opens (frame_at s layouts words depth o ∷ outer)

-- the frames of all open calls, the innermost first; the calls are given from the entry inwards
abbrev pub frames_of : Setting → (ℕ → FrameLayout) → (ℕ → ℕ) → List Open → List Frame
frames_of s layouts words opens = frames_inside s layouts words 0 opens []

-- ---- memory of the lane's own

abbrev pub local_word : Setting → (ℕ → FrameLayout) → (ℕ → ℕ) → Option Open → (number i : ℕ) → ℕ
local_word s layouts words None number i = 0
local_word s layouts words (Some o) number i = slot_word s.shader.types words o.base (slot_at (layouts o.function).locals.items number) i

-- private variables lie at the beginning of the row, in slots by the numbers of all variables of the module
abbrev pub own_of : Setting → (ℕ → FrameLayout) → (privates : List Slot) → (ℕ → ℕ) → List Open → Own
own_of s layouts privates words opens (shared root) i = 0
own_of s layouts privates words opens (private root) i = slot_word s.shader.types words 0 (slot_at privates root) i
own_of s layouts privates words opens (local depth number) i = local_word s layouts words (slice_get opens depth) number i

-- the lane that stands at a place and holds these words
abbrev pub lane_of : Setting → (ℕ → FrameLayout) → (privates : List Slot) → Place → (ℕ → ℕ) → List Open → Lane
lane_of s layouts privates place words opens = record { place = place; frames = frames_of s layouts words opens; own = own_of s layouts privates words opens }

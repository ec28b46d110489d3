-- A lane that may wait: the instance of the barrier at which it waits is part of its state, and its place is already the next one,
-- so that a release is a change of state alone.
use Rattle.std.specs.Prelude.{ℕ, Bool, true, false, List, ◌∷◌, map, Option, Some, None}
use Rattle.shade_values.specs.declared.types.Space.{Space}
use Rattle.shade_values.specs.declared.value.Value.{Value}
use Rattle.shade_core.specs.declared.module.CoreFunction.{CoreFunction}
use Rattle.shade_core.specs.Code.{Plain, Barrier, Code, plain, code_of}
use Rattle.shade_core.specs.Frames.{frame_words}
use Rattle.shade_lane.specs.declared.builtins.Builtins.{Builtins}
use Rattle.shade_lane.specs.declared.state.LaneState.{LaneState}
use Rattle.shade_lane.specs.declared.state.LaneState.TheVariants.{Able, Waiting, Ended}
use Rattle.shade_lane.specs.Lane.{Place, Over, First, Lane, begin, step, counts, is_over, param_value}

-- a lane of an entry: the number of the entry, the values of its parameters, the lane, and its state
pub record Member : Type 0 where
  pub entry : ℕ
  pub params : List (Option Value)
  pub lane : Lane
  pub state : LaneState

-- a lane that comes to wait: the space of the barrier, and the instance
pub record Arrival : Type 0 where
  pub space : Space
  pub instance : List ℕ

-- the words of an instance, whose one frame is that of the entry
abbrev pub instance_words : ℕ → ℕ → List ℕ → List ℕ
instance_words entry n turns = frame_words (record { function = entry; statement = n; turns = turns })

abbrev pub act_arrival : ℕ → ℕ → List ℕ → Plain → Option Arrival
act_arrival entry n turns (Barrier space severity) = Some (record { space = space; instance = instance_words entry n turns })
act_arrival entry n turns _ = None

abbrev pub code_arrival : ℕ → List ℕ → Code → Option Arrival
code_arrival entry turns (plain n act rest) = act_arrival entry n turns act
code_arrival entry turns _ = None

-- where a step from a place makes a lane wait, if it does
abbrev pub arrival : ℕ → Place → Option Arrival
arrival entry Over = None
arrival entry (First c k) = code_arrival entry (counts k) c

abbrev pub state_past : Bool → LaneState
state_past true = Ended
state_past false = Able

abbrev pub state_by : Option Arrival → Bool → LaneState
state_by None over = state_past over
state_by (Some a) over = Waiting a.space a.instance

-- a lane after a step of its own
abbrev pub moved : Member → Member
moved m = record m { lane = step m.params m.lane; state = state_by (arrival m.entry m.lane.place) (is_over (step m.params m.lane).place) }

-- a lane that is able again
abbrev pub freed : Member → Member
freed m = record m { state = Able }

-- the lane of an entry with this number at its start
abbrev pub begin_member : ℕ → CoreFunction → Builtins → Member
begin_member entry function b = record { entry = entry; params = map (param_value b) function.params; lane = begin (code_of function.body); state = Able }

abbrev pub is_able : LaneState → Bool
is_able Able = true
is_able _ = false

abbrev pub is_waiting : LaneState → Bool
is_waiting (Waiting space instance) = true
is_waiting _ = false

abbrev pub is_ended : LaneState → Bool
is_ended Ended = true
is_ended _ = false

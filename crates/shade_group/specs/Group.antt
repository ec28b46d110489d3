-- The workgroup machine: its start, its step and its run, when it diverged, and the trace of a lane.
-- (WGSL, "Control Barriers": all lanes of a workgroup wait at a barrier until each of them does.)
use Rattle.std.specs.Prelude.{◌≡◌, ℕ, zero, suc, ◌+◌, ◌*◌, ◌/◌, ◌%◌, ◌≤◌, Bool, true, false, not, ◌&&◌, List, [], ◌∷◌, ◌++◌, map, Option, None, Some, is_none, if◌then◌else◌, ◌==◌, nat_lt, slice_get, slice_set, slice_index, length}
use Rattle.std.specs.List.{list_all}
use Rattle.shade_base.specs.Counter.{one_more}
use Rattle.shade_values.specs.declared.types.Space.{Space}
use Rattle.shade_values.specs.declared.types.Space.TheVariants.{Workgroup, Storage}
use Rattle.shade_core.specs.Code.{code_of}
use Rattle.shade_core.specs.Rules.{has_rules}
use Rattle.shade_core.specs.declared.module.CoreFunction.{CoreFunction}
use Rattle.shade_core.specs.declared.module.CoreModule.{CoreModule}
use Rattle.shade_mem.specs.declared.inputs.Inputs.{Inputs}
use Rattle.shade_mem.specs.Inputs.{start_words}
use Rattle.shade_lane.specs.declared.builtins.Builtins.{Builtins}
use Rattle.shade_lane.specs.declared.state.LaneState.{LaneState}
use Rattle.shade_lane.specs.declared.state.LaneState.TheVariants.{Able, Waiting, Ended}
use Rattle.shade_lane.specs.Lane.{ends_in_return}
use Rattle.shade_lane.specs.Members.{Member, Arrival, arrival, moved, freed, begin_member, is_able, is_waiting, is_ended}
use Rattle.shade_group.specs.declared.event.Epochs.{Epochs}
use Rattle.shade_group.specs.declared.event.GroupEvent.{GroupEvent}
use Rattle.shade_group.specs.declared.event.GroupEvent.TheVariants as group_event
use Rattle.shade_group.specs.declared.event.RunEnd.{RunEnd}
use Rattle.shade_group.specs.declared.event.RunEnd.TheVariants as run_end

-- Lanes with one memory: the lanes by number, the words of each root, the epochs, the released instances in order, the two lanes
-- that stopped unlike each other where the run diverged, and how many steps were taken and how many of them were stutters. Epochs
-- and counts of steps are counters of 64 bits.
pub record Machine : Type 0 where
  pub members : List Member
  pub memory : List (List ℕ)
  pub epochs : Epochs
  pub released : List (List ℕ)
  pub diverged : Option (ℕ × ℕ)
  pub steps : ℕ
  pub stutters : ℕ

-- ---- one step

abbrev pub same_instance : List ℕ → List ℕ → Bool
same_instance [] [] = true
same_instance [] (y ∷ ys) = false
same_instance (x ∷ xs) [] = false
same_instance (x ∷ xs) (y ∷ ys) = (x == y) && same_instance xs ys

-- two that stopped, one ended and one waiting, or waiting at different instances
abbrev pub unlike : LaneState → LaneState → Bool
unlike Able other = false
unlike (Waiting s a) Able = false
unlike (Waiting s a) (Waiting t b) = not (same_instance a b)
unlike (Waiting s a) Ended = true
unlike Ended Able = false
unlike Ended (Waiting t b) = true
unlike Ended Ended = false

-- the least lane that is unlike a state, where the first lane has this number
abbrev pub unlike_from : ℕ → LaneState → List Member → Option ℕ
unlike_from n state [] = None
unlike_from n state (m ∷ members) = if unlike state m.state then Some n else unlike_from (n + 1) state members

-- the least lane that is unlike a state
abbrev pub least_unlike : LaneState → List Member → Option ℕ
least_unlike state members = unlike_from 0 state members

-- two numbers, the lesser first
abbrev pub ordered : ℕ → ℕ → ℕ × ℕ
ordered a b = if nat_lt b a then (b, a) else (a, b)

-- with a barrier of a space passed once more
abbrev pub raised : Space → Epochs → Epochs
raised Workgroup e = record e { workgroup = one_more e.workgroup }
raised Storage e = record e { storage = one_more e.storage }
raised _ e = e

abbrev pub all_wait : List Member → Bool
all_wait members = list_all (λ m. is_waiting m.state) members

abbrev pub all_ended : List Member → Bool
all_ended members = list_all (λ m. is_ended m.state) members

-- every lane is able again
abbrev pub release : Space → List ℕ → Machine → Machine
release space instance m = record m { members = map freed m.members; epochs = raised space m.epochs; released = m.released ++ instance ∷ [] }

-- every lane is able again, where they waited at this state's instance
abbrev pub release_by : LaneState → Machine → Machine
release_by (Waiting space instance) m = release space instance m
release_by Able m = m
release_by Ended m = m

-- where a lane came to wait, alike with all that stopped: a release where every lane waits
abbrev pub met : Bool → Space → List ℕ → Machine → Machine
met true space instance m = release space instance m
met false space instance m = m

-- the run diverged by a lane and another
abbrev pub parted : ℕ → ℕ → Machine → Machine
parted number other m = record m { diverged = Some (ordered number other) }

abbrev pub ended : ℕ → Option ℕ → Machine → Machine
ended number None m = m
ended number (Some other) m = parted number other m

abbrev pub waited : ℕ → Space → List ℕ → Option ℕ → Machine → Machine
waited number space instance None m = met (all_wait m.members) space instance m
waited number space instance (Some other) m = parted number other m

-- where the lane with a number came to a state
abbrev pub settled : ℕ → LaneState → Machine → Machine
settled number Able m = m
settled number Ended m = ended number (least_unlike Ended m.members) m
settled number (Waiting space instance) m = waited number space instance (least_unlike (Waiting space instance) m.members) m

-- with one more step
abbrev pub counted : Machine → Machine
counted m = record m { steps = one_more m.steps }

-- a step that changes nothing but the two counts
abbrev pub stuttered : Machine → Machine
stuttered m = record m { steps = one_more m.steps; stutters = one_more m.stutters }

-- the lane with this number became another
abbrev pub with_member : ℕ → Member → Machine → Machine
with_member number member m = record m { members = slice_set m.members number member }

-- whether a step of this lane is none of a lane that stopped, nor after a divergence (where every lane ended, none is able)
abbrev pub acts : Machine → Member → Bool
acts m member = is_none m.diverged && is_able member.state

abbrev pub step_by : Bool → ℕ → Member → Machine → Machine
step_by true number member m = settled number (moved member).state (with_member number (moved member) (counted m))
step_by false number member m = stuttered m

abbrev pub step_of : ℕ → Option Member → Machine → Machine
step_of number None m = stuttered m
step_of number (Some member) m = step_by (acts m member) number member m

-- one step of the lane with this number
abbrev pub step : Machine → ℕ → Machine
step m number = step_of number (slice_get m.members number) m

-- the steps of a list of lane numbers
abbrev pub run : Machine → List ℕ → Machine
run m [] = m
run m (number ∷ numbers) = run (step m number) numbers

-- ---- what a step answers

abbrev pub parted_event : ℕ → ℕ → GroupEvent
parted_event number other = group_event.Diverged (ordered number other).0 (ordered number other).1

abbrev pub released_event : ℕ → GroupEvent
released_event n = group_event.Released n

abbrev pub ended_event : ℕ → Option ℕ → Machine → GroupEvent
ended_event number None m = if all_ended m.members then group_event.Ended else group_event.Ran
ended_event number (Some other) m = parted_event number other

abbrev pub waited_event : ℕ → Option ℕ → Machine → GroupEvent
waited_event number None m = if all_wait m.members then released_event (length m.released) else group_event.Ran
waited_event number (Some other) m = parted_event number other

-- where the lane with a number came to a state
abbrev pub settled_event : ℕ → LaneState → Machine → GroupEvent
settled_event number Able m = group_event.Ran
settled_event number Ended m = ended_event number (least_unlike Ended m.members) m
settled_event number (Waiting space instance) m = waited_event number (least_unlike (Waiting space instance) m.members) m

abbrev pub event_by : Bool → ℕ → Member → Machine → GroupEvent
event_by true number member m = settled_event number (moved member).state (with_member number (moved member) (counted m))
event_by false number member m = group_event.Stutter

abbrev pub event_of : ℕ → Option Member → Machine → GroupEvent
event_of number None m = group_event.Stutter
event_of number (Some member) m = event_by (acts m member) number member m

-- what a step of the lane with this number is
abbrev pub event : Machine → ℕ → GroupEvent
event m number = event_of number (slice_get m.members number) m

-- ---- what is asked of a machine

-- the numbers of the able lanes, where the first has this number
abbrev pub able_from : ℕ → List Member → List ℕ
able_from n [] = []
able_from n (m ∷ members) = if is_able m.state then n ∷ able_from (n + 1) members else able_from (n + 1) members

-- the able lanes, by number
abbrev pub able_lanes : Machine → List ℕ
able_lanes m = able_from 0 m.members

-- where a lane waits, if it does
abbrev pub waits_at : LaneState → Option (List ℕ)
waits_at Able = None
waits_at (Waiting space instance) = Some instance
waits_at Ended = None

abbrev pub waits_by : Option Member → Option (List ℕ)
waits_by None = None
waits_by (Some member) = waits_at member.state

-- where the lane with a number waits, if there is such a lane and it waits
abbrev pub waiting_at : Machine → ℕ → Option (List ℕ)
waiting_at m number = waits_by (slice_get m.members number)

abbrev pub end_by : Option (ℕ × ℕ) → Bool → RunEnd
end_by None true = run_end.Ended
end_by None false = run_end.Running
end_by (Some pair) over = run_end.Diverged pair.0 pair.1

-- how a run stands: it is over where it diverged or every lane ended
abbrev pub run_end_of : Machine → RunEnd
run_end_of m = end_by m.diverged (all_ended m.members)

-- where the run is not over, some lane is able
abbrev pub HasAble : Machine → Type 0
HasAble m = run_end_of m ≡ run_end.Running → 1 ≤ length (able_lanes m)

abbrev pub instances : Option Arrival → List (List ℕ)
instances None = []
instances (Some a) = a.instance ∷ []

abbrev pub member_arrival : Machine → Member → List (List ℕ)
member_arrival m member = if acts m member then instances (arrival member.entry member.lane.place) else []

abbrev pub arrival_of : Machine → Option Member → List (List ℕ)
arrival_of m None = []
arrival_of m (Some member) = member_arrival m member

-- the instances at which the steps of one lane made it wait, in order
abbrev pub trace : Machine → List ℕ → ℕ → List (List ℕ)
trace m [] lane = []
trace m (number ∷ numbers) lane = (if number == lane then arrival_of m (slice_get m.members number) else []) ++ trace (step m number) numbers lane

-- ---- the start

-- What the lane with a number is handed, where a workgroup has this size: lanes are numbered along the first direction, then the
-- second, then the third. (WGSL, "Compute Shaders and Workgroups": the local invocation index.)
abbrev pub builtins_of : Inputs → List ℕ → ℕ → Builtins
builtins_of inputs size n = record {
  local = (n % slice_index size 0) ∷ ((n / slice_index size 0) % slice_index size 1) ∷ (n / (slice_index size 0 * slice_index size 1)) ∷ [];
  index = n;
  group = inputs.group;
  groups = inputs.groups;
  size = size;
}

abbrev pub lane_count : List ℕ → ℕ
lane_count size = slice_index size 0 * slice_index size 1 * slice_index size 2

-- so many lanes, from a number on
abbrev pub members_from : Inputs → CoreFunction → List ℕ → ℕ → ℕ → List Member
members_from inputs function size n zero = []
members_from inputs function size n (suc count) = begin_member inputs.entry function (builtins_of inputs size n) ∷ members_from inputs function size (n + 1) count

abbrev pub sized_members : Inputs → CoreFunction → Option (List ℕ) → List Member
sized_members inputs function None = []
sized_members inputs function (Some size) = members_from inputs function size 0 (lane_count size)

abbrev pub entry_members : Inputs → Option CoreFunction → List Member
entry_members inputs None = []
entry_members inputs (Some function) = sized_members inputs function function.entry

-- the machine before its first step
abbrev pub begin : CoreModule → Inputs → Machine
begin shader inputs = record {
  members = entry_members inputs (slice_get shader.functions inputs.entry);
  memory = start_words shader inputs.words;
  epochs = record { workgroup = 0; storage = 0 };
  released = [];
  diverged = None;
  steps = 0;
  stutters = 0;
}

-- ---- which entries run

abbrev pub sized_runs : CoreFunction → Option (List ℕ) → Type 0
sized_runs function None = ⊥
sized_runs function (Some size) = (1 ≤ lane_count size) × (lane_count size ≤ 256) × (has_rules function ≡ true) × (ends_in_return (code_of function.body) ≡ true)

abbrev pub entry_runs : Option CoreFunction → Type 0
entry_runs None = ⊥
entry_runs (Some function) = sized_runs function function.entry

-- A function that the machine runs: an entry of 1 to 256 lanes that has rules, and whose last statement is a Return.
pub record IsRunnable (shader : CoreModule) (entry : ℕ) : Type 0 where
  pub body : entry_runs (slice_get shader.functions entry)

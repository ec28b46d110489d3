-- The machine as a group of lanes over a memory.
use Rattle.std.specs.Prelude.{ℕ, false, not, List, [], map, Option, None, Some, is_some}
use Rattle.shade_values.specs.declared.types.Space.{Space}
use Rattle.shade_values.specs.declared.value.Value.{Value}
use Rattle.shade_lane.specs.declared.state.LaneState.{LaneState}
use Rattle.shade_lane.specs.declared.state.LaneState.TheVariants as lane_state
use Rattle.shade_lane.specs.Lane as lanes
use Rattle.shade_lane.specs.Members.{Arrival, arrival}
use Rattle.shade_lane.specs.Members as members
use Rattle.shade_group.specs.declared.event.Epochs.{Epochs}
use Rattle.shade_group.specs.Group as groups
use Rattle.shade_schedules.specs.System.{Request, Works, Waits, System}
use Rattle.shade_schedules.specs.Machine.{Status, Able, Waiting, Ended, Member, Group}
use Rattle.shade_schedules.specs.Words as words

-- a lane without what it waits at
pub record Own : Type 0 where
  pub entry : ℕ
  pub params : List (Option Value)
  pub lane : lanes.Lane

abbrev pub request_by : Option Arrival → Request words.Spot (List (Option ℕ)) (List ℕ)
request_by None = Works
request_by (Some a) = Waits a.instance

abbrev pub asks : Own → Request words.Spot (List (Option ℕ)) (List ℕ)
asks o = request_by (arrival o.entry o.lane.place)

abbrev pub stepped : Own → Own
stepped o = record { entry = o.entry; params = o.params; lane = lanes.step o.params o.lane }

-- Lanes of today: no statement reaches the memory. The space of a barrier is told by its instance.
abbrev pub today : (List ℕ → Space) → System
today space_at = record {
  State = Own;
  Memory = List (List ℕ);
  Address = words.Address;
  Word = Option ℕ;
  Spot = words.Spot;
  Data = List (Option ℕ);
  Answer = List ℕ;
  Site = List ℕ;
  Instance = List ℕ;
  Epochs = Epochs;
  does = asks;
  after = λ o x. stepped o;
  is_over = λ o. lanes.is_over o.lane.place;
  resumed = λ site o x. o;
  word_at = words.word_at;
  covers = words.covers;
  read = words.read;
  written = words.written;
  nothing = [];
  is_fixed = λ s. false;
  instance_of = λ site. site;
  unlike_sites = λ a b. not (groups.same_instance a b);
  loaded = λ site. None;
  raised = λ site e. groups.raised (space_at site) e;
  epoch_at = λ e a. e.workgroup;
}

module _ (space_at : List ℕ → Space) where
  abbrev pub seen_state : LaneState → Status (today space_at)
  seen_state lane_state.Able = Able
  seen_state (lane_state.Waiting space instance) = Waiting instance
  seen_state lane_state.Ended = Ended

  abbrev pub seen_member : members.Member → Member (today space_at)
  seen_member m = record { lane = record { entry = m.entry; params = m.params; lane = m.lane }; state = seen_state m.state }

  abbrev pub seen : groups.Machine → Group (today space_at)
  seen m = record {
    members = map seen_member m.members;
    memory = m.memory;
    epochs = m.epochs;
    released = m.released;
    diverged = is_some m.diverged;
  }

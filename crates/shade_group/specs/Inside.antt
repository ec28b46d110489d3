-- The machine that a workgroup stands for, also in the midst of a step.
use Rattle.std.specs.Prelude.{ℕ, List, map, Option, None, Some, slice_get}
use Rattle.shade_lane.specs.declared.state.LaneState.{LaneState}
use Rattle.shade_lane.specs.declared.state.LaneState.TheVariants.{Ended}
use Rattle.shade_lane.specs.Members.{Member}
use Rattle.shade_lane.specs.Seen.{Seen, member_of}
use Rattle.shade_group.specs.declared.event.Epochs.{Epochs}
use Rattle.shade_group.specs.declared.workgroup.Workgroup.{Workgroup}
use Rattle.shade_group.specs.Group.{Machine}

abbrev pub members_of : List Seen → List Member
members_of lanes = map member_of lanes

abbrev pub machine_from : List Seen → List (List ℕ) → Epochs → List (List ℕ) → Option (ℕ × ℕ) → ℕ → ℕ → Machine
machine_from lanes memory epochs released diverged steps stutters = record {
  members = members_of lanes;
  memory = memory;
  epochs = epochs;
  released = released;
  diverged = diverged;
  steps = steps;
  stutters = stutters;
}

abbrev pub inside : Workgroup → Machine
inside w = machine_from w.lanes.items w.memory w.epochs w.released.items w.diverged w.steps w.stutters

abbrev pub state_by : Option Seen → LaneState
state_by None = Ended
state_by (Some lane) = lane.state

-- the state of the lane with a number
abbrev pub state_at : List Seen → ℕ → LaneState
state_at lanes n = state_by (slice_get lanes n)

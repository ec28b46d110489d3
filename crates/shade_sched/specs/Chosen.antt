-- Runs in which each step is of a lane that may step, chosen by its place among them.
use Rattle.std.specs.Prelude.{◌≡◌, ℕ, suc, ◌<◌, ◌≤◌, List, [], ◌∷◌, length, Option, None, slice_get}
use Rattle.shade_schedules.specs.Choices as choices
use Rattle.shade_group.specs.declared.event.RunEnd.{RunEnd}
use Rattle.shade_group.specs.declared.event.RunEnd.TheVariants as run_end
use Rattle.shade_group.specs.Group.{Machine, able_lanes, run_end_of, run, step}
use Rattle.shade_sched.specs.declared.chosen.ChosenEnd.{ChosenEnd}
use Rattle.shade_sched.specs.declared.chosen.ChosenEnd.TheVariants as chosen_end

abbrev pub while_running : RunEnd → Option ℕ → Option ℕ
while_running run_end.Running lane = lane
while_running other lane = None

-- the lane that a choice means: the one at this place of those that may step, by number, and none where the run is over
abbrev pub lane_of : Machine → ℕ → Option ℕ
lane_of m pick = while_running (run_end_of m) (slice_get (able_lanes m) pick)

-- the run that choices make, which ends with their list or where it is over
abbrev pub chosen_run : Machine → List ℕ → Machine
chosen_run m picks = run m (choices.chosen lane_of step picks m)

-- one step of it
abbrev pub chosen_step : Machine → ℕ → Machine
chosen_step m pick = choices.step_to lane_of step (lane_of m pick) m

-- a place among the lanes that may step, in a run that is not over
pub record IsAble (m : Machine) (pick : ℕ) : Type 0 where
  pub running : run_end_of m ≡ run_end.Running
  pub within : pick < length (able_lanes m)

-- one step that a function chooses, which is asked with its number and how many lanes may step
pub record IsPicked (gives : ℕ → ℕ → ℕ → Type 0) (k : ℕ) (old new : Machine) : Type 0 where
  pub pick : ℕ
  pub able : IsAble old pick
  pub given : gives k (length (able_lanes old)) pick
  pub made : new ≡ chosen_step old pick

-- each choice of the list means a lane at its step
abbrev pub AreAble : Machine → List ℕ → Type 0
AreAble m [] = Unit {0}
AreAble m (pick ∷ picks) = IsAble m pick × AreAble (chosen_step m pick) picks

-- each choice of the list is what the function may give at its step, where the first has this number
abbrev pub AreGiven : (ℕ → ℕ → ℕ → Type 0) → ℕ → Machine → List ℕ → Type 0
AreGiven gives k m [] = Unit {0}
AreGiven gives k m (pick ∷ picks) = gives k (length (able_lanes m)) pick × AreGiven gives (suc k) (chosen_step m pick) picks

-- how the run ended, by how it stands: where it still runs, its limit is reached
abbrev pub end_of : RunEnd → ChosenEnd
end_of run_end.Running = chosen_end.Spent
end_of run_end.Ended = chosen_end.Ended
end_of (run_end.Diverged one other) = chosen_end.Diverged one other

-- The run that the function chooses: its choices are those that the function gives, as many as the limit or fewer where the run is over.
pub record IsChosenRun (gives : ℕ → ℕ → ℕ → Type 0) (limit : ℕ) (old new : Machine) (told : ChosenEnd) : Type 0 where
  pub picks : List ℕ
  pub able : AreAble old picks
  pub given : AreGiven gives 0 old picks
  pub made : new ≡ chosen_run old picks
  pub few : length picks ≤ limit
  pub all : run_end_of new ≡ run_end.Running → length picks ≡ limit
  pub end : told ≡ end_of (run_end_of new)

-- A beginning of such a run, before its last step.
pub record IsCutRun (gives : ℕ → ℕ → ℕ → Type 0) (limit : ℕ) (old new : Machine) : Type 0 where
  pub picks : List ℕ
  pub able : AreAble old picks
  pub given : AreGiven gives 0 old picks
  pub made : new ≡ chosen_run old picks
  pub running : run_end_of new ≡ run_end.Running
  pub few : length picks < limit

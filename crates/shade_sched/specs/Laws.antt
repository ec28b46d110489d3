-- A law of runs in which a function chooses.
use Rattle.std.specs.Prelude.{◌≡◌, ℕ, List}
use Rattle.shade_group.specs.Group.{Machine}
use Rattle.shade_sched.specs.Chosen.{chosen_run}

-- No step of a run that choices make is a stutter.
abbrev pub ChosenLanesAct : Type 0
ChosenLanesAct = (m : Machine) (picks : List ℕ) → (chosen_run m picks).stutters ≡ m.stutters

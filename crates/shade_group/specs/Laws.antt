-- A law of the machine.
use Rattle.std.specs.Prelude.{◌≡◌, ◌≢◌, ℕ, List, [], ◌∷◌}
use Rattle.shade_group.specs.declared.event.GroupEvent.TheVariants as group_event
use Rattle.shade_group.specs.declared.event.RunEnd.TheVariants as run_end
use Rattle.shade_group.specs.Group.{Machine, run_end_of, step, stuttered, event, run}

-- as many stutters as a list has items
abbrev pub stuttered_by : List ℕ → Machine → Machine
stuttered_by [] m = m
stuttered_by (number ∷ numbers) m = stuttered_by numbers (stuttered m)

-- A step of any lane is a stutter: it changes nothing but the two counts, and so do the steps of any list. The run stands as it stood.
pub record Stutters (m : Machine) : Type 0 where
  pub one : (number : ℕ) → step m number ≡ stuttered m
  pub answer : (number : ℕ) → event m number ≡ group_event.Stutter
  pub all : (numbers : List ℕ) → run m numbers ≡ stuttered_by numbers m
  pub end : (numbers : List ℕ) → run_end_of (run m numbers) ≡ run_end_of m

-- After a run diverged, or every lane ended, only stutters follow.
abbrev pub OverStutters : Type 0
OverStutters = (m : Machine) → run_end_of m ≢ run_end.Running → Stutters m

-- Runs by choices. A choice is a number, and a machine tells the lane that it means, or that the run is over.
use Rattle.std.specs.Prelude.{ℕ, List, [], ◌∷◌, Option, None, Some, replicate}

module _ {Machine : Type 0} (lane_of : Machine → ℕ → Option ℕ) (step : Machine → ℕ → Machine) where
  abbrev pub step_to : Option ℕ → Machine → Machine
  step_to None m = m
  step_to (Some lane) m = step m lane

  abbrev pub before_steps : Option ℕ → List ℕ → List ℕ
  before_steps None steps = []
  before_steps (Some lane) steps = lane ∷ steps

  -- the lanes that choices step, one a choice, until the list or the run is over
  abbrev pub chosen : List ℕ → Machine → List ℕ
  chosen [] m = []
  chosen (pick ∷ picks) m = before_steps (lane_of m pick) (chosen picks (step_to (lane_of m pick) m))

  -- so many steps, each by the least able lane
  abbrev pub lane_by_lane : ℕ → Machine → List ℕ
  lane_by_lane n m = chosen (replicate n 0) m

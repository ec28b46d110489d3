-- Orders of steps: by choices among the able lanes, and lane by lane.
use Rattle.std.specs.Prelude.{◌≡◌, ℕ, ◌+◌, Bool, true, false, List, [], ◌∷◌, Option, None, slice_get}
use Rattle.shade_schedules.specs.System.{System}
use Rattle.shade_schedules.specs.Machine.{Member, Group, is_able, all_ended, step, run, history, HasEnded}
use Rattle.shade_schedules.specs.Races.{IsOrderly, Follows}
use Rattle.shade_schedules.specs.Choices as choices

module _ (K : System) where
  abbrev pub able_by : Bool → ℕ → List ℕ → List ℕ
  able_by true n more = n ∷ more
  able_by false n more = more

  -- the numbers of the able lanes, where the first has this number
  abbrev pub able_from : ℕ → List (Member K) → List ℕ
  able_from n [] = []
  able_from n (m ∷ members) = able_by (is_able K m.state) n (able_from (n + 1) members)

  abbrev pub is_over : Bool → Bool → Bool
  is_over true all = true
  is_over false all = all

  abbrev pub lane_by : Bool → Group K → ℕ → Option ℕ
  lane_by true g pick = None
  lane_by false g pick = slice_get (able_from 0 g.members) pick

  -- the lane that a choice among the able ones means, and none where the run is over
  abbrev pub lane_of : Group K → ℕ → Option ℕ
  lane_of g pick = lane_by (is_over g.diverged (all_ended K g.members)) g pick

  -- so many steps, each by the least able lane
  abbrev pub lane_by_lane : ℕ → Group K → List ℕ
  lane_by_lane n g = choices.lane_by_lane lane_of (step K) n g

  -- Where the lane-by-lane run ended with no race, no atomic access and no write to what is fixed, no list of steps races or diverges,
  -- and each that ends leaves the same memory and the same released instances.
  abbrev pub IsIndependent : Type 0
  IsIndependent = (start : Group K) (limit : ℕ) (steps : List ℕ) → start.diverged ≡ false → HasEnded K (run K start (lane_by_lane limit start)) → IsOrderly K (history K start (lane_by_lane limit start))
      → Follows K start (lane_by_lane limit start) steps

-- What is asked of lanes so that no run of theirs has an atomic access or writes what is fixed.
use Rattle.std.specs.Prelude.{◌≡◌, false, ℕ, true, Some, List, slice_get}
use Rattle.shade_schedules.specs.System.{Writes, Changes, System}
use Rattle.shade_schedules.specs.Machine.{Member, Group, HasEnded, run, history}
use Rattle.shade_schedules.specs.Races.{IsRaceFree, Follows}
use Rattle.shade_schedules.specs.Orders.{lane_by_lane}

module _ (K : System) where
  -- A fact of lanes that their steps keep, whatever they are answered, and that rules out atomic steps and writes to what is fixed.
  pub record IsKept (Good : K.State → Type 0) : Type 0 where
    pub after : (s : K.State) (x : K.Answer) → Good s → Good (K.after s x)
    pub resumed : (site : K.Site) (s : K.State) (x : K.Answer) → Good s → Good (K.resumed site s x)
    pub no_atomic : (s : K.State) (p : K.Spot) (d : K.Data) → Good s → K.does s ≡ Changes p d → ⊥
    pub no_fixed : (s : K.State) (p : K.Spot) (d : K.Data) (q : K.Spot) (a : K.Address) → Good s → K.does s ≡ Writes p d → K.is_fixed q ≡ true → K.covers q a ≡ true → K.covers p a ≡ true → ⊥

  abbrev pub AllGood : (K.State → Type 0) → Group K → Type 0
  AllGood Good g = (i : ℕ) (m : Member K) → slice_get g.members i ≡ Some m → Good m.lane

  -- Where the lane-by-lane run of lanes without atomic steps ended with no race, no list of steps races or diverges, and each that ends
  -- leaves the same memory and the same released instances.
  abbrev pub IsIndependentOf : (K.State → Type 0) → Type 0
  IsIndependentOf Good = (start : Group K) (limit : ℕ) (steps : List ℕ) → start.diverged ≡ false → AllGood Good start → HasEnded K (run K start (lane_by_lane K limit start)) → IsRaceFree K (history K start (lane_by_lane K limit start))
      → Follows K start (lane_by_lane K limit start) steps

-- Lanes told by what they ask after each list of answers. Every lane whose steps depend on its answers alone is one of these.
use Rattle.std.specs.Prelude.{◌≡◌, ℕ, Bool, false, List, [], ◌∷◌, ◌++◌, Option}
use Rattle.shade_schedules.specs.System.{Request, System}
use Rattle.shade_schedules.specs.Words.{Space, Spot, Site, over_words}
use Rattle.shade_schedules.specs.Machine.{Group, HasEnded, run, history}
use Rattle.shade_schedules.specs.Races.{Commutes, IsOrderly}
use Rattle.shade_schedules.specs.Orders.{IsIndependent}
use Rattle.shade_schedules.specs.Records.{ListsTell}

pub record Script : Type 0 where
  pub asks : List (List ℕ) → Request Spot (List (Option ℕ)) Site
  pub ends : List (List ℕ) → Bool
  pub answers : List (List ℕ)

abbrev pub answered : Script → List ℕ → Script
answered s x = record { asks = s.asks; ends = s.ends; answers = s.answers ++ x ∷ [] }

-- lanes of scripts, over roots in these spaces
abbrev pub scripts : List Space → System
scripts spaces = over_words Script (λ s. s.asks s.answers) answered (λ s. s.ends s.answers) (λ site. answered) spaces

-- No list of steps races or diverges where one ended with no race, and each that ends leaves the same.
abbrev pub ScriptsCommute : Type 0
ScriptsCommute = (spaces : List Space) → Commutes (scripts spaces)

-- The lane-by-lane run stands for all.
abbrev pub ScriptsAreIndependent : Type 0
ScriptsAreIndependent = (spaces : List Space) → IsIndependent (scripts spaces)

-- Two lists of steps whose runs end, one with no race, leave one memory and one list of released instances.
abbrev pub ScriptsLeaveOne : Type 0
ScriptsLeaveOne = (spaces : List Space) (start : Group (scripts spaces)) (reference steps : List ℕ) → start.diverged ≡ false
    → HasEnded (scripts spaces) (run (scripts spaces) start reference) → IsOrderly (scripts spaces) (history (scripts spaces) start reference) → HasEnded (scripts spaces) (run (scripts spaces) start steps)
    → ((run (scripts spaces) start steps).memory ≡ (run (scripts spaces) start reference).memory) × ((run (scripts spaces) start steps).released ≡ (run (scripts spaces) start reference).released)

-- A history is free of races exactly where none of the words that were touched has a recorded race.
abbrev pub ScriptsTellRaces : Type 0
ScriptsTellRaces = (spaces : List Space) → ListsTell (scripts spaces)

-- The schedule of a job: a policy by name, or an object with one member.
use Rattle.std.specs.Prelude.{◌≡◌, ℕ, ◌≤◌, ◌<◌, ◌&&◌, ◌==◌, ◌⊎◌, nat_le, if◌then◌else◌, List, [], ◌∷◌, map, codes, sum, replicate, Option, Some, None, slice_index_or, MatchOption}
use Rattle.std.specs.List.{flat_map}
use Rattle.std.specs.Str.{bytes_eq}
use Rattle.serde_json.specs.Data.{Data, null, string, object, Members, no_members, member}
use Rattle.shade_job.specs.declared.numbers.NumberRange.{NumberRange}
use Rattle.shade_job.specs.declared.numbers.NumberRange.TheVariants.{Between, Below}
use Rattle.shade_job.specs.declared.policies.Schedule.{Schedule}
use Rattle.shade_job.specs.declared.schedules.Run.{Run}
use Rattle.shade_job.specs.declared.policies.Schedule.TheVariants as schedule
use Rattle.shade_job.specs.Pointers.{item_pointer}
use Rattle.shade_job.specs.Json.{natural, items_in, sized, by_range, by_ranges, IsFirstNone, PartsAre, PartsFail, NumbersFail}
use Rattle.shade_job.specs.Rules.{MemberIs, MemberFails}

-- what a value asks for, before what it holds is read
pub data Form : Type 0 where
  by_lanes : Form
  by_round : Form
  by_seed : Data → Form
  by_picks : Data → Form
  by_list : Data → Form
  by_runs : Data → Form

abbrev pub form_by_text : List ℕ → Option Form
form_by_text text = if bytes_eq text (codes "lanes") then Some by_lanes else if bytes_eq text (codes "round") then Some by_round else None

-- `runs` came with version 2
abbrev pub form_by_member : ℕ → List ℕ → Data → Option Form
form_by_member version name d =
    if bytes_eq name (codes "seed") then Some (by_seed d)
    else if bytes_eq name (codes "picks") then Some (by_picks d)
    else if bytes_eq name (codes "list") then Some (by_list d)
    else if (bytes_eq name (codes "runs") && (version == 2)) then Some (by_runs d) else None

abbrev pub form_by_members : ℕ → Members → Option Form
form_by_members version (member name d no_members) = form_by_member version name d
form_by_members version _ = None

abbrev pub form_of : ℕ → Data → Option Form
form_of version (string text) = form_by_text text
form_of version (object members) = form_by_members version members
form_of version _ = None

-- ---- runs: lists of two numbers, a lane and how often it steps

abbrev pub run_ranges : ℕ → List NumberRange
run_ranges lanes = Below lanes ∷ Between 1 10000000 ∷ []

abbrev pub pair_of : List (Option ℕ) → Option Run
pair_of (Some lane ∷ Some count ∷ []) = Some (record { lane = lane; count = count })
pair_of _ = None

abbrev pub run_by : ℕ → Option (List Data) → Option Run
run_by lanes None = None
run_by lanes (Some ds) = pair_of (by_ranges (run_ranges lanes) ds)

-- the run that a value states
abbrev pub run_of : ℕ → Data → Option Run
run_of lanes d = run_by lanes (sized (λ n. n == 2) d)

abbrev pub runs_of : ℕ → List Data → List (Option Run)
runs_of lanes ds = map (run_of lanes) ds

-- each lane as often as its run says, in order
abbrev pub steps_of : List Run → List ℕ
steps_of runs = flat_map (λ run. replicate run.count run.lane) runs

abbrev pub step_count : List Run → ℕ
step_count runs = sum (map (λ run. run.count) runs)

-- the first item that states no run, and what is wrong with it
pub record RunFails (lanes : ℕ) (base : List ℕ) (ds : List Data) (pointer : List ℕ) : Type 0 where
  pub index : ℕ
  pub first : IsFirstNone (runs_of lanes ds) index
  pub fails : NumbersFail (run_ranges lanes) (item_pointer base index) (slice_index_or ds index null) pointer

-- too many steps together, where each run by itself is right
pub record StepsAreMany (lanes : ℕ) (base : List ℕ) (ds : List Data) (pointer : List ℕ) : Type 0 where
  pub runs : List Run
  pub each : runs_of lanes ds ≡ map (λ run. Some run) runs
  pub many : 10000000 < step_count runs
  pub at : pointer ≡ base

pub record RunsAre (lanes : ℕ) (ds : List Data) (steps : List ℕ) : Type 0 where
  pub runs : List Run
  pub each : runs_of lanes ds ≡ map (λ run. Some run) runs
  pub few : step_count runs ≤ 10000000
  pub are : steps ≡ steps_of runs

abbrev pub RunsFail : ℕ → List ℕ → List Data → List ℕ → Type 0
RunsFail lanes base ds pointer = RunFails lanes base ds pointer ⊎ StepsAreMany lanes base ds pointer

-- ---- schedules

-- 1 to 65,536 numbers below 2 ^ 32
abbrev pub picks_in : Data → Option (List Data)
picks_in d = sized (λ n. nat_le 1 n && nat_le n 65536) d

abbrev pub pick_range : NumberRange
pick_range = Between 0 4294967295

-- at most 10,000,000 numbers of lanes
abbrev pub steps_in : Data → Option (List Data)
steps_in d = sized (λ n. nat_le n 10000000) d

abbrev pub FormIs : ℕ → Form → Schedule → Type 0
FormIs lanes by_lanes stated = stated ≡ schedule.Lanes
FormIs lanes by_round stated = stated ≡ schedule.Round
FormIs lanes (by_seed d) stated = MatchOption (natural d) ⊥ (λ n. stated ≡ schedule.Seed n)
FormIs lanes (by_picks d) stated = (numbers : List ℕ) × PartsAre (by_range pick_range) (picks_in d) numbers × (stated ≡ schedule.Picks numbers)
FormIs lanes (by_list d) stated = (numbers : List ℕ) × PartsAre (by_range (Below lanes)) (steps_in d) numbers × (stated ≡ schedule.List numbers)
FormIs lanes (by_runs d) stated = MatchOption (items_in d) ⊥ (λ ds. (steps : List ℕ) × RunsAre lanes ds steps × (stated ≡ schedule.List steps))

abbrev pub FormFails : ℕ → Form → List ℕ → Type 0
FormFails lanes by_lanes pointer = ⊥
FormFails lanes by_round pointer = ⊥
FormFails lanes (by_seed d) pointer = (natural d ≡ None) × (pointer ≡ codes "/schedule/seed")
FormFails lanes (by_picks d) pointer = PartsFail (by_range pick_range) (codes "/schedule/picks") (picks_in d) pointer
FormFails lanes (by_list d) pointer = PartsFail (by_range (Below lanes)) (codes "/schedule/list") (steps_in d) pointer
FormFails lanes (by_runs d) pointer = MatchOption (items_in d) (pointer ≡ codes "/schedule/runs") (λ ds. RunsFail lanes (codes "/schedule/runs") ds pointer)

abbrev pub ScheduleIs : ℕ → ℕ → Data → Schedule → Type 0
ScheduleIs version lanes job stated = MemberIs (codes "schedule") (λ d. MatchOption (form_of version d) ⊥ (λ form. FormIs lanes form stated)) job

abbrev pub ScheduleFails : ℕ → ℕ → Data → List ℕ → Type 0
ScheduleFails version lanes job pointer =
    MemberFails (codes "schedule") (λ d at. MatchOption (form_of version d) (at ≡ codes "/schedule") (λ form. FormFails lanes form at)) job pointer

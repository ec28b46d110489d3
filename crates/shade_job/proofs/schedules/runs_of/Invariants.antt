use Rattle.std.proofs.Common.{◌≡◌, ◌<◌, ℕ, map, take, Some, None, get_or, is_some, true}
use Rattle.serde_json.specs.View.{view}
use Rattle.shade_job.specs.Schedules.{runs_of}
use Rattle.shade_job.proofs.schedules.runs_of.Given as goal

abbrev pub invariant-loop-index : goal.invariant-loop-index
invariant-loop-index l = record {
  each : runs_of l.lanes (map view (take l.index l.items)) ≡ map (λ run. Some run) l.runs.items;
  before : (k : ℕ) → k < l.index → is_some (get_or (runs_of l.lanes (map view l.items)) k None) ≡ true;
}

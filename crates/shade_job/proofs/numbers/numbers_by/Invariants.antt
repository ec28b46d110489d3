use Rattle.std.proofs.Common.{◌≡◌, ◌<◌, ℕ, map, take, Some, None, get_or, is_some, true}
use Rattle.serde_json.specs.View.{view}
use Rattle.shade_job.specs.Json.{by_ranges}
use Rattle.shade_job.proofs.numbers.numbers_by.Given as goal

abbrev pub invariant-loop-index : goal.invariant-loop-index
invariant-loop-index l = record {
  each : by_ranges (take l.index l.ranges) (take l.index (map view l.items)) ≡ map (λ (n : ℕ). Some n) l.numbers.items;
  before : (k : ℕ) → k < l.index → is_some (get_or (by_ranges l.ranges (map view l.items)) k None) ≡ true;
}

use Rattle.std.proofs.Common.{◌≡◌, ◌<◌, ℕ, map, take, Some, None, get_or, is_some, true}
use Rattle.serde_json.specs.View.{view}
use Rattle.shade_job.specs.Json.{by_range}
use Rattle.shade_job.proofs.numbers.numbers_of.Given as goal

abbrev pub invariant-loop-index : goal.invariant-loop-index
invariant-loop-index l = record {
  each : by_range l.range (map view (take l.index l.items)) ≡ map (λ (n : ℕ). Some n) l.numbers.items;
  before : (k : ℕ) → k < l.index → is_some (get_or (by_range l.range (map view l.items)) k None) ≡ true;
}

use Rattle.std.proofs.Common.{◌≡◌, ◌<◌, ℕ, map, None, get_or, is_some, true}
use Rattle.serde_json.specs.View.{view}
use Rattle.shade_job.specs.declared.numbers.NumberRange.TheVariants.{Word}
use Rattle.shade_job.specs.Json.{by_range}
use Rattle.shade_job.proofs.buffers.first_no_word.Given as goal

abbrev pub invariant-loop-index : goal.invariant-loop-index
invariant-loop-index l = (k : ℕ) → k < l.index → is_some (get_or (by_range Word (map view l.items)) k None) ≡ true

use Rattle.std.proofs.Common.{◌≡◌, ◌++◌, map, drop}
use Rattle.serde_json.specs.View.{view}
use Rattle.shade_job.specs.Buffers.{words_in}
use Rattle.shade_job.proofs.buffers.words_in.Given as goal

abbrev pub invariant-loop-item : goal.invariant-loop-item
invariant-loop-item l = l.words ++ words_in (map view (drop l.item-index l.items)) ≡ words_in (map view l.items)

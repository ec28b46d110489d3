use Rattle.std.proofs.Common.{◌≡◌, ◌+◌, drop}
use Rattle.shade_job.specs.Buffers.{word_count}
use Rattle.shade_job.proofs.buffers.are_few.Given as goal

abbrev pub invariant-loop-list : goal.invariant-loop-list
invariant-loop-list l = l.left + word_count l.words ≡ 1048576 + word_count (drop l.list-index l.words)

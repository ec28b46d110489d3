use Rattle.std.proofs.Common.{◌≡◌, map, take}
use Rattle.serde_json.specs.View.{members_view}
use Rattle.shade_job.specs.Buffers.{root_words}
use Rattle.shade_job.proofs.buffers.words_of.Given as goal

abbrev pub invariant-loop-root : goal.invariant-loop-root
invariant-loop-root l = l.words ≡ map (root_words (members_view l.members.entries)) (take l.root-index l.root-items)

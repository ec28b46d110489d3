use Rattle.serde_json.specs.View.{members_view}
use Rattle.shade_job.proofs.BufferLaws.{Passed}
use Rattle.shade_job.proofs.buffers.refuse_buffers.Given as goal

abbrev pub invariant-loop-name : goal.invariant-loop-name
invariant-loop-name l = Passed l.«module» (members_view l.name-iterator) (members_view l.members.entries)

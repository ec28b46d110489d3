use Rattle.std.proofs.Common.{◌≡◌}
use Rattle.serde_json.specs.View.{members_view}
use Rattle.shade_job.specs.Rules.{other_in}
use Rattle.shade_job.specs.Buffers.{names_buffer}
use Rattle.shade_job.proofs.buffers.first_other.Given as goal

abbrev pub invariant-loop-name : goal.invariant-loop-name
invariant-loop-name l = other_in (names_buffer l.«module») (members_view l.name-iterator) ≡ other_in (names_buffer l.«module») (members_view l.members.entries)

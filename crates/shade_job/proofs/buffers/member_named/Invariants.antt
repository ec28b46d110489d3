use Rattle.std.proofs.Common.{◌≡◌}
use Rattle.serde_json.specs.View.{members_view}
use Rattle.shade_job.specs.Buffers.{member_named}
use Rattle.shade_job.proofs.buffers.member_named.Given as goal

abbrev pub invariant-loop-other : goal.invariant-loop-other
invariant-loop-other l = member_named l.name (members_view l.other-iterator) ≡ member_named l.name (members_view l.members.entries)

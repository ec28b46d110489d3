use Rattle.std.proofs.Common.{◌≡◌}
use Rattle.serde_json.specs.View.{members_view}
use Rattle.shade_job.specs.Rules.{is_known, other_in}
use Rattle.shade_job.proofs.others.first_other.Given as goal

abbrev pub invariant-loop-name : goal.invariant-loop-name
invariant-loop-name l = other_in is_known (members_view l.name-iterator) ≡ other_in is_known (members_view l.members.entries)

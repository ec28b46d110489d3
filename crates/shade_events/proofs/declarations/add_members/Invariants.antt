use Rattle.std.proofs.Common.{◌≡◌, ◌++◌, drop}
use Rattle.std.specs.List.{flat_map}
use Rattle.shade_events.specs.Events.{member_uses}
use Rattle.shade_events.proofs.declarations.add_members.Given as goal

abbrev pub invariant-loop-member : goal.invariant-loop-member
invariant-loop-member l = l.out ++ flat_map (member_uses l.names) (drop l.member-index l.members) ≡ l.initial.out ++ flat_map (member_uses l.names) l.members

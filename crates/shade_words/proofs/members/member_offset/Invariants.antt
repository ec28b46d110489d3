use Rattle.std.proofs.Common.{◌≡◌, ◌+◌}
use Rattle.shade_values.specs.Shape.{shapes}
use Rattle.shade_values.specs.Table.{members_at}
use Rattle.shade_words.proofs.MemberLaws.{Walking}
use Rattle.shade_words.proofs.members.member_offset.Given as goal

abbrev pub invariant-members : goal.invariant-members
invariant-members l = record {
  walking : Walking (shapes l.types) (members_at l.types.structs l.number) l.id-index l.end;
  left : l.id-index + l.left ≡ l.k;
}

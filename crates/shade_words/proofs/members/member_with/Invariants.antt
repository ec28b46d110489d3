use Rattle.std.proofs.Common.{ℕ, ◌<◌}
use Rattle.shade_values.specs.Shape.{shapes}
use Rattle.shade_values.specs.Table.{members_at}
use Rattle.shade_words.specs.Types.{members_lay}
use Rattle.shade_words.proofs.MemberLaws.{Walking, IsOutside}
use Rattle.shade_words.proofs.members.member_with.Given as goal

abbrev pub invariant-members : goal.invariant-members
invariant-members l = record {
  walking : Walking (shapes l.types) (members_at l.types.structs l.number) l.id-index l.end;
  outside : (k : ℕ) → k < l.id-index → IsOutside (members_lay l.types l.number) l.word k;
}

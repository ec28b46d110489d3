use Rattle.std.proofs.Common.{◌≡◌, drop}
use Rattle.shade_typing.specs.Parts.{member_from}
use Rattle.shade_typing.proofs.parts.member_from.Given as goal

abbrev pub invariant-loop-k : goal.invariant-loop-k
invariant-loop-k l = member_from l.k l.text (drop l.k l.members) ≡ member_from 0 l.text l.members

use Rattle.std.proofs.Common.{◌≡◌, ◌++◌, drop}
use Rattle.shade_declarations.specs.Structs.{members_of}
use Rattle.shade_declarations.proofs.structs.members_of.Given as goal

abbrev pub invariant-loop-member : goal.invariant-loop-member
invariant-loop-member l = l.made.items ++ members_of l.known l.names (drop l.member-index l.members) ≡ members_of l.known l.names l.members

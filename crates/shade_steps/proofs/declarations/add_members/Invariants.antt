use Rattle.std.proofs.Common.{◌≡◌, ◌++◌, drop}
use Rattle.shade_steps.specs.Declarations.{members_steps}
use Rattle.shade_steps.proofs.declarations.add_members.Given as goal

abbrev pub invariant-loop-i : goal.invariant-loop-i
invariant-loop-i l = l.out ++ members_steps l.names (drop l.i l.members) ≡ l.initial.out ++ members_steps l.names l.members

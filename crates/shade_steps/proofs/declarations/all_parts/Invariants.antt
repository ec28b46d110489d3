use Rattle.std.proofs.Common.{◌≡◌, map, take}
use Rattle.shade_steps.specs.Declarations.{member_parts}
use Rattle.shade_steps.proofs.declarations.all_parts.Given as goal

abbrev pub invariant-loop-member : goal.invariant-loop-member
invariant-loop-member l = l.made ≡ map member_parts (take l.member-index l.member-items)

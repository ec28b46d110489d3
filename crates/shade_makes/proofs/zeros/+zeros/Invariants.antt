use Rattle.std.proofs.Common.{◌≡◌, ◌+◌, ◌*◌, map, take}
use Rattle.shade_values.specs.Shape.{shape_of}
use Rattle.shade_makes.specs.Zeros.{zero_of}
use Rattle.shade_makes.proofs.zeros.+zeros.Given as goal

abbrev pub decreases-zero_value : goal.decreases-zero_value
decreases-zero_value l = 2 * l.id.0 + 1

abbrev pub decreases-zero_members : goal.decreases-zero_members
decreases-zero_members l = 2 * l.whole.0

abbrev pub invariant-zero_members-loop-member : goal.invariant-zero_members-loop-member
invariant-zero_members-loop-member l = l.made ≡ map (λ m. zero_of (shape_of l.types m.1)) (take l.member-index l.members)

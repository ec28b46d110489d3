use Rattle.std.proofs.Common.{◌≡◌, take}
use Rattle.shade_attributes.proofs.attribute.with_name.Given as goal

abbrev pub invariant-loop-other : goal.invariant-loop-other
invariant-loop-other l = l.made ≡ take l.other-index l.seen

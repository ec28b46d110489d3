use Rattle.shade_shape.proofs.SeenLaws.{rises_new}
use Rattle.shade_shape.proofs.seen.Seen.new.Goals as goal

pub invariant_of-result : goal.invariant_of-result
invariant_of-result c e = rises_new _ c.new.ensures.items

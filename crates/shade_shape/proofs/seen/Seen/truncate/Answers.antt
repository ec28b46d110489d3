use Rattle.shade_shape.proofs.SeenLaws.{rises_cut}
use Rattle.shade_shape.proofs.seen.Seen.truncate.Goals as goal

pub invariant_of-self : goal.invariant_of-self
invariant_of-self c = rises_cut c.self.inside.numbers.items _ _ _ c.self.invariant c.truncate.ensures.items

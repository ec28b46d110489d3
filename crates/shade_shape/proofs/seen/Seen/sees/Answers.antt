use Rattle.shade_shape.proofs.SeenLaws.{rises_lent}
use Rattle.shade_shape.proofs.seen.Seen.sees.Goals as goal

pub is_found-requires : goal.is_found-requires
is_found-requires c = rises_lent c.self.inside.numbers.items _ c.deref.ensures.value (c.self.invariant c.if-self.true)

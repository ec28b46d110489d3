use Rattle.shade_shape.proofs.SeenLaws.{rises_after}
use Rattle.shade_shape.proofs.seen.Seen.push.Goals as goal

pub invariant_of-self-2 : goal.invariant_of-self-2
invariant_of-self-2 c = rises_after c.self.inside.numbers.items _ _ _ _ _ c.self.invariant c.deref.ensures.value c.go_on-rises.ensures c.in_ok-push.ensures.items

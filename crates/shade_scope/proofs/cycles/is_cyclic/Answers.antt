use Rattle.shade_scope.proofs.CycleLaws.{decided_as}
use Rattle.shade_scope.proofs.cycles.is_cyclic.Goals as goal

pub returns : goal.returns
returns c = decided_as _ _ _ _ _ c.in_ok-distances.ensures c.targets.ensures.targets c.targets.ensures.nodes _ _ c.reaches_any.ensures c.as_slice.ensures

use Rattle.shade_reach.proofs.LeastLaws.{NoneBefore}
use Rattle.shade_reach.proofs.paths.first_at.Given as goal

abbrev pub invariant-loop-node : goal.invariant-loop-node
invariant-loop-node l = NoneBefore l.nodes l.distances l.distance l.node-index

use Rattle.shade_reach.proofs.LeastLaws.{IsOnWay}
use Rattle.shade_reach.proofs.paths.PathsTo.least_from.Given as goal

abbrev pub invariant-way : goal.invariant-way
invariant-way l = IsOnWay l.self.graph.edges l.from l.self.target l.distances l.path.items l.at l.left

abbrev pub decreases-way : goal.decreases-way
decreases-way l = l.left

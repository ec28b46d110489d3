use Rattle.shade_scope.proofs.CycleLaws.{HoldsBelow}
use Rattle.shade_scope.proofs.cycles.never_rises.Given as goal

abbrev pub invariant-loop-node : goal.invariant-loop-node
invariant-loop-node l = HoldsBelow l.graph.edges l.ranks l.node

use Rattle.std.proofs.Common.{take}
use Rattle.shade_scope.specs.Cycles.{IsCycle}
use Rattle.shade_scope.specs.Faults.{IsLeast}
use Rattle.shade_scope.proofs.cycles.least_of_heads.Given as goal

abbrev pub invariant-loop-head : goal.invariant-loop-head
invariant-loop-head l = IsLeast (IsCycle l.ranked.graph.edges (take l.head-index l.heads)) l.least

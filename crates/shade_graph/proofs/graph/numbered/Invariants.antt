use Rattle.std.proofs.Common.{take}
use Rattle.shade_graph.specs.Numbered.{IsNumbered}
use Rattle.shade_graph.proofs.graph.numbered.Given as goal

abbrev pub invariant-pairs : goal.invariant-pairs
invariant-pairs l = IsNumbered l.nodes (take l.pair-index l.pairs) l.edges.items

use Rattle.std.proofs.Common.{◌≡◌, ◌++◌, map, drop}
use Rattle.shade_graph.specs.Numbered.{ends}
use Rattle.shade_graph.proofs.graph.add_ends.Given as goal

abbrev pub invariant-given : goal.invariant-given
invariant-given l = l.pairs.items ++ map ends (drop l.edge-index l.given) ≡ l.initial.pairs.items ++ map ends l.given

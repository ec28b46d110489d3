use Rattle.std.proofs.Common.{◌≡◌, map, take}
use Rattle.shade_steps.specs.Statements.{node_of}
use Rattle.shade_steps.proofs.attributes.nodes_of.Given as goal

abbrev pub invariant-loop-e : goal.invariant-loop-e
invariant-loop-e l = l.made ≡ map node_of (take l.e-index l.exprs)

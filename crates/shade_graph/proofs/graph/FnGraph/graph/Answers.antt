use Rattle.std.proofs.Common.{length, subst}
use Rattle.shade_reach.specs.Digraph.{JoinsNodes}
use Rattle.shade_graph.specs.Numbered.{FunctionGraph}
use Rattle.shade_graph.proofs.graph.FnGraph.graph.Goals as goal

pub returns-clause-within : goal.returns-clause-within
returns-clause-within c = subst (λ (g : FunctionGraph). JoinsNodes (length g.nodes) g.edges) c.self.view_is c.self.invariant.3

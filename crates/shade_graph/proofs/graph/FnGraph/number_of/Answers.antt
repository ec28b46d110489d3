use Rattle.std.proofs.Common.{List, sym, subst}
use Rattle.shade_graph.specs.declared.node.Node.{Node}
use Rattle.shade_graph.specs.Order.{IsAscending}
use Rattle.shade_graph.proofs.graph.FnGraph.number_of.Goals as goal

pub number_of-requires : goal.number_of-requires
number_of-requires c = subst (λ (ns : List Node). IsAscending ns) (sym c.deref.ensures.value) c.self.invariant.2

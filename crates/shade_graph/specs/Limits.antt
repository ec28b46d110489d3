-- How many nodes a graph may have.
use Rattle.std.specs.Prelude.{ℕ, ◌<◌, List, length, Contains}
use Rattle.shade_core.specs.declared.module.CoreFunction.{CoreFunction}
use Rattle.shade_graph.specs.declared.fault.GraphFault.{GraphFault}
use Rattle.shade_graph.specs.declared.fault.GraphFault.TheVariants.{TooManyNodes, NoMemory}
use Rattle.shade_graph.specs.declared.node.Node.{Node}
use Rattle.shade_graph.specs.Graph.{IsNode}
use Rattle.shade_graph.specs.Order.{IsAscending}

abbrev pub most_nodes : ℕ
most_nodes = 1048576

-- A function has more nodes than a graph may have: some of them, in node order and so each once, are more.
pub record HasTooManyNodes (function : CoreFunction) : Type 0 where
  pub nodes : List Node
  pub ascending : IsAscending nodes
  pub node : (u : Node) → Contains nodes u → IsNode function u
  pub many : most_nodes < length nodes

-- why the graph of a function is refused
abbrev pub Refuses : CoreFunction → GraphFault → Type 0
Refuses f TooManyNodes = HasTooManyNodes f
Refuses f NoMemory = Unit {0}

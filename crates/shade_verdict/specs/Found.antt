-- The violations found so far, on the way through the functions, their severities and the nodes that are asked for.
use Rattle.std.specs.Prelude.{◌≡◌, ℕ, ◌<◌, ◌⊎◌, List, [], ◌∷◌, ◌++◌, map, take, length, Some, slice_get, slice_index_or}
use Rattle.shade_base.specs.declared.severity.Severity.{Severity}
use Rattle.shade_core.specs.declared.module.CoreFunction.{CoreFunction}
use Rattle.shade_graph.specs.declared.node.Node.{Node}
use Rattle.shade_graph.specs.declared.node.Node.TheVariants.{Required, NonUniform}
use Rattle.shade_graph.specs.Graph.{Edge, Among}
use Rattle.shade_graph.specs.Limits.{HasTooManyNodes}
use Rattle.shade_graph.specs.Order.{NodeLess, severity_rank}
use Rattle.shade_graph.specs.Numbered.{FunctionGraph}
use Rattle.shade_reach.specs.Digraph.{Digraph, Towards, JoinsNodes}
use Rattle.shade_reach.specs.Paths.{NoPath, IsLeastPath}
use Rattle.shade_verdict.specs.declared.violation.Violation.{Violation}
use Rattle.shade_verdict.specs.Violations.{IsViolation, IsSite, Shows, plain_step, second_node, Ascends}

-- the node with a number
abbrev pub node_at : List Node → ℕ → Node
node_at nodes number = slice_index_or nodes number NonUniform

-- the graph by number as its callers see it
abbrev pub digraph_of : FunctionGraph → Digraph
digraph_of graph = record { nodes = length graph.nodes; edges = graph.edges }

-- paths are those of a graph to its non-uniform node
pub record LeadsToNonUniform (graph : FunctionGraph) (paths : Towards) : Type 0 where
  pub same : paths.graph ≡ digraph_of graph
  pub within : JoinsNodes (length graph.nodes) graph.edges
  pub target : slice_get graph.nodes paths.target ≡ Some NonUniform

-- what is told of one violation of a function
pub record Tells (f : CoreFunction) (number : ℕ) (severity : Severity) (node : Node) (v : Violation) : Type 0 where
  pub of_function : v.function ≡ number
  pub of_severity : v.severity ≡ severity
  pub asked : Edge f (Required severity) node
  pub site : IsSite f (Required severity) node v.site
  pub path : List Node
  pub least : IsLeastPath (Edge f) NodeLess node NonUniform path
  pub steps : v.path ≡ map plain_step (Required severity ∷ path)

-- what one node that is asked for adds: its violation, or nothing where no path leads from it
abbrev pub Adds : CoreFunction → ℕ → Severity → Node → List Violation → List Violation → Type 0
Adds f number severity node old new = ((v : Violation) × (new ≡ old ++ v ∷ []) × Tells f number severity node v) ⊎ ((new ≡ old) × NoPath (Edge f) node NonUniform)

-- the places before those of one function, one severity and the nodes with a property
abbrev pub IsPast : ℕ → ℕ → (Node → Type 0) → ℕ → Severity → Node → Type 0
IsPast k r P number severity node = (number < k) ⊎ ((number ≡ k) × ((severity_rank severity < r) ⊎ ((severity_rank severity ≡ r) × P node)))

-- The violations at the places that are past: each item is one, each is an item, and they ascend.
pub record AreFound (functions : List CoreFunction) (k r : ℕ) (P : Node → Type 0) (found : List Violation) : Type 0 where
  pub sound : (v : Violation) → Among v found → Shows functions v (second_node v.path)
  pub past : (v : Violation) → Among v found → IsPast k r P v.function v.severity (second_node v.path)
  pub complete : (number : ℕ) (severity : Severity) (node : Node) → IsPast k r P number severity node → IsViolation functions number severity node
      → (v : Violation) × Among v found × (v.function ≡ number) × (v.severity ≡ severity) × (second_node v.path ≡ node)
  pub ordered : Ascends found

abbrev pub NoNode : Node → Type 0
NoNode node = ⊥

-- the first nodes that are asked for
abbrev pub IsEarly : List Node → List ℕ → ℕ → Node → Type 0
IsEarly nodes targets index node = (j : ℕ) × Among j (take index targets) × (slice_get nodes j ≡ Some node)

-- none of the first functions has too many nodes
abbrev pub AreSmall : List CoreFunction → ℕ → Type 0
AreSmall functions k = (number : ℕ) (f : CoreFunction) → number < k → slice_get functions number ≡ Some f → HasTooManyNodes f → ⊥

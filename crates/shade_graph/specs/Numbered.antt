-- The graph of a function by the numbers of its nodes.
use Rattle.std.specs.Prelude.{◌≡◌, ℕ, ◌+◌, ◌↔◌, ◌⊎◌, if◌then◌else◌, is_some, Option, Some, None, List, [], ◌∷◌, ◌++◌, map, length, slice_get, Contains}
use Rattle.shade_base.specs.declared.severity.Severity.TheVariants.{Error, Warning, Info}
use Rattle.shade_values.specs.declared.types.TypeId.{TypeId}
use Rattle.shade_core.specs.declared.module.CoreFunction.{CoreFunction}
use Rattle.shade_core.specs.declared.module.CoreParam.{CoreParam}
use Rattle.shade_core.specs.declared.module.CoreParam.TheVariants.{Input}
use Rattle.shade_core.specs.declared.module.BuiltinInput.TheVariants.{LocalId, LocalIndex, GlobalId}
use Rattle.shade_core.specs.Code.{code_of}
use Rattle.shade_reach.specs.Digraph.{HasEdge, JoinsNodes}
use Rattle.shade_graph.specs.declared.node.Node.{Node}
use Rattle.shade_graph.specs.declared.node.Node.TheVariants.{Required, NonUniform, Start, Param, Returned}
use Rattle.shade_graph.specs.declared.gather.GivenEdge.{GivenEdge}
use Rattle.shade_graph.specs.Graph.{Among, IsNode, Edge}
use Rattle.shade_graph.specs.Order.{IsAscending}
use Rattle.shade_graph.specs.Gathered.{nodes_of, edges_of}

-- The nodes in node order, and the edges by the places of their nodes in it.
pub record FunctionGraph : Type 0 where
  pub nodes : List Node
  pub edges : List (ℕ × ℕ)

-- The graph of a function: exactly its nodes, in order, and between any two of them an edge exactly where one joins them.
pub record IsGraphOf (function : CoreFunction) (graph : FunctionGraph) : Type 0 where
  pub ascending : IsAscending graph.nodes
  pub node : (u : Node) → Contains graph.nodes u ↔ IsNode function u
  pub within : JoinsNodes (length graph.nodes) graph.edges
  pub edge : (i j : ℕ) (u v : Node) → slice_get graph.nodes i ≡ Some u → slice_get graph.nodes j ≡ Some v → HasEdge graph.edges i j ↔ Edge function u v

-- what the code makes on the way

abbrev pub fixed_nodes : List Node
fixed_nodes = Required Error ∷ Required Warning ∷ Required Info ∷ NonUniform ∷ Start ∷ []

-- the nodes of parameters, from a number on
abbrev pub param_nodes : ℕ → List CoreParam → List Node
param_nodes i [] = []
param_nodes i (p ∷ rest) = Param i ∷ param_nodes (i + 1) rest

abbrev pub returned_nodes : Option TypeId → List Node
returned_nodes None = []
returned_nodes (Some ty) = Returned ∷ []

-- the nodes of a function whatever its statements are
abbrev pub function_nodes : CoreFunction → List Node
function_nodes f = (fixed_nodes ++ param_nodes 0 f.params) ++ returned_nodes f.result

abbrev pub all_nodes : CoreFunction → List Node
all_nodes f = function_nodes f ++ nodes_of (code_of f.body)

abbrev pub Pair : Type 0
Pair = Node × Node

abbrev pub input_pairs : ℕ → CoreParam → List Pair
input_pairs i (Input LocalId) = (Param i, NonUniform) ∷ []
input_pairs i (Input LocalIndex) = (Param i, NonUniform) ∷ []
input_pairs i (Input GlobalId) = (Param i, NonUniform) ∷ []
input_pairs i _ = []

-- the edges of parameters that differ, from a number on
abbrev pub param_pairs : ℕ → List CoreParam → List Pair
param_pairs i [] = []
param_pairs i (p ∷ rest) = input_pairs i p ++ param_pairs (i + 1) rest

abbrev pub entry_pairs : CoreFunction → List Pair
entry_pairs f = if is_some f.entry then param_pairs 0 f.params else []

abbrev pub ends : GivenEdge → Pair
ends edge = (edge.from, edge.to)

abbrev pub all_pairs : CoreFunction → List Pair
all_pairs f = entry_pairs f ++ map ends (edges_of Start (code_of f.body))

-- a node has a number
abbrev pub Has : List Node → Node → Type 0
Has nodes u = (k : ℕ) × (slice_get nodes k ≡ Some u)

-- what one pair adds to the edges: an edge where both its ends have numbers, else nothing
abbrev pub Numbers : List Node → Pair → List (ℕ × ℕ) → List (ℕ × ℕ) → Type 0
Numbers nodes pair old new =
    ((i : ℕ) × (j : ℕ) × (slice_get nodes i ≡ Some pair.0) × (slice_get nodes j ≡ Some pair.1) × (new ≡ old ++ (i, j) ∷ []))
    ⊎ ((new ≡ old) × ((Has nodes pair.0 → ⊥) ⊎ (Has nodes pair.1 → ⊥)))

-- The edges are the pairs whose ends have numbers.
pub record IsNumbered (nodes : List Node) (pairs : List Pair) (edges : List (ℕ × ℕ)) : Type 0 where
  pub sound : (i j : ℕ) → Among (i, j) edges → (u : Node) × (v : Node) × Among (u, v) pairs × (slice_get nodes i ≡ Some u) × (slice_get nodes j ≡ Some v)
  pub complete : (u v : Node) → Among (u, v) pairs → Has nodes u → Has nodes v → (i : ℕ) × (j : ℕ) × Among (i, j) edges × (slice_get nodes i ≡ Some u) × (slice_get nodes j ≡ Some v)

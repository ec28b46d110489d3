-- Directed graphs as their callers see them: edges, the targets of a node, distances.
use Rattle.std.specs.Prelude.{◌≡◌, ℕ, ◌<◌, ◌↔◌, List, Contains, length, Option, Some, None, slice_get}
use Rattle.std.specs.List.Sorted.{IsStrictlyIncreasing}
use Rattle.shade_reach.specs.Paths.{IsLeastPath, IsDistance, NoPath}

-- the nodes are the numbers below `nodes`
pub record Digraph : Type 0 where
  pub nodes : ℕ
  pub edges : List (ℕ × ℕ)

-- a graph, and the node to which its paths are asked for
pub record Towards : Type 0 where
  pub graph : Digraph
  pub target : ℕ

-- an edge joins one node to another
abbrev pub HasEdge : List (ℕ × ℕ) → ℕ → ℕ → Type 0
HasEdge edges from to = Contains edges (from, to)

-- both ends of each edge are nodes
abbrev pub JoinsNodes : ℕ → List (ℕ × ℕ) → Type 0
JoinsNodes nodes edges = (from to : ℕ) → HasEdge edges from to → (from < nodes) × (to < nodes)

-- the lists have the same edges, in whatever order and however often
abbrev pub SameEdges : List (ℕ × ℕ) → List (ℕ × ℕ) → Type 0
SameEdges old new = (from to : ℕ) → HasEdge old from to ↔ HasEdge new from to

-- the ends of the edges from a node, each once and ascending
pub record IsTargets (edges : List (ℕ × ℕ)) (from : ℕ) (targets : List ℕ) : Type 0 where
  pub ascending : IsStrictlyIncreasing targets
  pub ends : (to : ℕ) → Contains targets to ↔ HasEdge edges from to

-- the shortest path, and among the shortest the first by node number at the first difference
abbrev pub IsLeastEdgePath : List (ℕ × ℕ) → ℕ → ℕ → List ℕ → Type 0
IsLeastEdgePath edges from target = IsLeastPath (HasEdge edges) (λ (node other : ℕ). node < other) from target

-- for each node the length of a shortest path to the target, and None exactly where no path leads there
pub record IsDistances (nodes : ℕ) (edges : List (ℕ × ℕ)) (target : ℕ) (distances : List (Option ℕ)) : Type 0 where
  pub long : length distances ≡ nodes
  pub some : (node distance : ℕ) → slice_get distances node ≡ Some (Some distance) → IsDistance (HasEdge edges) node target distance
  pub none : (node : ℕ) → slice_get distances node ≡ Some None → NoPath (HasEdge edges) node target

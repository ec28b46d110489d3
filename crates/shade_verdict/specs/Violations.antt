-- The violations of a module. (This project's rule, after WGSL, "Uniformity analysis": a collective statement asks for uniform
-- control, and a path to the non-uniform node shows that it may not have it.)
use Rattle.std.specs.Prelude.{◌≡◌, ℕ, ◌<◌, ◌≤◌, ◌⊎◌, List, [], ◌∷◌, map, Some, None, slice_get}
use Rattle.shade_base.specs.declared.severity.Severity.{Severity}
use Rattle.shade_core.specs.declared.module.CoreFunction.{CoreFunction}
use Rattle.shade_graph.specs.declared.fault.GraphFault.{GraphFault}
use Rattle.shade_graph.specs.declared.fault.GraphFault.TheVariants.{TooManyNodes, NoMemory}
use Rattle.shade_graph.specs.declared.node.Node.{Node}
use Rattle.shade_graph.specs.declared.node.Node.TheVariants.{Required, NonUniform}
use Rattle.shade_graph.specs.Graph.{Edge, Gives, Among}
use Rattle.shade_graph.specs.Limits.{HasTooManyNodes}
use Rattle.shade_graph.specs.Order.{NodeLess, severity_rank}
use Rattle.shade_reach.specs.Paths.{IsPath, IsLeastPath}
use Rattle.shade_verdict.specs.declared.violation.PathStep.{PathStep}
use Rattle.shade_verdict.specs.declared.violation.Violation.{Violation}

-- In the function with this number, what this severity asks for leads to a node, and a path leads from there to the non-uniform node.
pub record IsViolation (functions : List CoreFunction) (number : ℕ) (severity : Severity) (node : Node) : Type 0 where
  pub function : CoreFunction
  pub numbered : slice_get functions number ≡ Some function
  pub asked : Edge function (Required severity) node
  pub path : List Node
  pub joined : IsPath (Edge function) node NonUniform path

-- the least statement that gives an edge
pub record IsSite (function : CoreFunction) (u v : Node) (s : ℕ) : Type 0 where
  pub gives : Gives function s u v
  pub least : (other : ℕ) → Gives function other u v → s ≤ other

-- a step over an edge that a statement's own rows give
abbrev pub plain_step : Node → PathStep
plain_step node = record { node = node; via = None }

-- What is told of a violation: its site, and the path from the required node over the least path from the node that it leads to.
pub record Shows (functions : List CoreFunction) (violation : Violation) (node : Node) : Type 0 where
  pub function : CoreFunction
  pub numbered : slice_get functions violation.function ≡ Some function
  pub asked : Edge function (Required violation.severity) node
  pub site : IsSite function (Required violation.severity) node violation.site
  pub path : List Node
  pub least : IsLeastPath (Edge function) NodeLess node NonUniform path
  pub steps : violation.path ≡ map plain_step (Required violation.severity ∷ path)

-- the second node of a path
abbrev pub second_node : List PathStep → Node
second_node [] = NonUniform
second_node (first ∷ []) = NonUniform
second_node (first ∷ second ∷ rest) = second.node

-- by function, then severity, then the node that is asked for
abbrev pub ComesBefore : Violation → Violation → Type 0
ComesBefore v w =
    (v.function < w.function)
    ⊎ ((v.function ≡ w.function)
    × ((severity_rank v.severity < severity_rank w.severity)
    ⊎ ((v.severity ≡ w.severity) × NodeLess (second_node v.path) (second_node w.path))))

-- each item comes before all later ones
abbrev pub Ascends : List Violation → Type 0
Ascends [] = Unit {0}
Ascends (v ∷ rest) = ((w : Violation) → Among w rest → ComesBefore v w) × Ascends rest

-- The violations of a module: each item is one and is told as it should be, each violation is told by an item, and the items ascend.
pub record AreViolations (functions : List CoreFunction) (violations : List Violation) : Type 0 where
  pub sound : (v : Violation) → Among v violations → Shows functions v (second_node v.path)
  pub complete : (number : ℕ) (severity : Severity) (node : Node) → IsViolation functions number severity node
      → (v : Violation) × Among v violations × (v.function ≡ number) × (v.severity ≡ severity) × (second_node v.path ≡ node)
  pub ordered : Ascends violations

-- some function has more nodes than a graph may have
pub record HasLargeFunction (functions : List CoreFunction) : Type 0 where
  pub number : ℕ
  pub function : CoreFunction
  pub numbered : slice_get functions number ≡ Some function
  pub many : HasTooManyNodes function

-- why no violations are told
abbrev pub IsRefused : List CoreFunction → GraphFault → Type 0
IsRefused functions TooManyNodes = HasLargeFunction functions
IsRefused functions NoMemory = Unit {0}

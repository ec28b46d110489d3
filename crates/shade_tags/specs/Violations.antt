-- The violations of a module whose functions have some tags, and how paths are told. (This project's rule, after WGSL, "Uniformity analysis": a
-- collective statement asks for uniform control, and a path to the non-uniform node shows that it may not have it.)
use Rattle.std.specs.Prelude.{◌≡◌, ℕ, ◌+◌, List, [], ◌∷◌, length, Option, None, Some, slice_get}
use Rattle.shade_base.specs.declared.severity.Severity.{Severity}
use Rattle.shade_core.specs.declared.module.CoreFunction.{CoreFunction}
use Rattle.shade_core.specs.declared.module.CoreModule.{CoreModule}
use Rattle.shade_graph.specs.declared.node.Node.{Node}
use Rattle.shade_graph.specs.declared.node.Node.TheVariants.{Required, NonUniform}
use Rattle.shade_graph.specs.declared.node.Tag.{Tag}
use Rattle.shade_graph.specs.declared.node.Via.{Via}
use Rattle.shade_graph.specs.Graph.{Among}
use Rattle.shade_graph.specs.Order.{NodeLess}
use Rattle.shade_reach.specs.Paths.{IsLeastPath}
use Rattle.shade_uniformity.specs.Edges.{OwnEdge, Edge, IsSite, IsVia}
use Rattle.shade_verdict.specs.declared.violation.PathStep.{PathStep}
use Rattle.shade_verdict.specs.declared.violation.Violation.{Violation}
use Rattle.shade_verdict.specs.Violations.{plain_step, second_node, Ascends}
use Rattle.shade_tags.specs.Tags.{Leads}

-- the reason of an edge: none where a rule other than that on tags gives it, else the least call and of its tags the least one
pub data IsReason (shader : CoreModule) (function : CoreFunction) (tags : List (List Tag)) (u v : Node) : Option Via → Type 0 where
  by_rule : OwnEdge shader function u v → IsReason shader function tags u v None
  by_call : {via : Via} → IsVia shader function tags u v via → IsReason shader function tags u v (Some via)

-- the steps from a node on over some nodes, each with the reason of the edge into it
abbrev pub AreReasons : CoreModule → CoreFunction → List (List Tag) → Node → List Node → List PathStep → Type 0
AreReasons shader function tags from [] steps = steps ≡ []
AreReasons shader function tags from (node ∷ nodes) [] = ⊥
AreReasons shader function tags from (node ∷ nodes) (step ∷ steps) = (step.node ≡ node) × IsReason shader function tags from node step.via × AreReasons shader function tags node nodes steps

-- a path as it is told: its nodes, and behind the first one the reasons
abbrev pub IsTold : CoreModule → CoreFunction → List (List Tag) → List Node → List PathStep → Type 0
IsTold shader function tags [] steps = steps ≡ []
IsTold shader function tags (first ∷ nodes) steps = (behind : List PathStep) × (steps ≡ plain_step first ∷ behind) × AreReasons shader function tags first nodes behind

-- In the function with this number, what this severity asks for leads to a node, and a path leads from there to the non-uniform node. The
-- severity is that of the statement that asks, also where it stands in a function that is called.
pub record IsViolation (shader : CoreModule) (tags : List (List Tag)) (number : ℕ) (severity : Severity) (node : Node) : Type 0 where
  pub function : CoreFunction
  pub numbered : slice_get shader.functions number ≡ Some function
  pub asked : Edge shader function tags (Required severity) node
  pub leads : Leads (Edge shader function tags) node NonUniform

-- What is told of a violation: its site, and the path from the required node over the least path from the node that it leads to.
pub record Shows (shader : CoreModule) (tags : List (List Tag)) (violation : Violation) (node : Node) : Type 0 where
  pub function : CoreFunction
  pub numbered : slice_get shader.functions violation.function ≡ Some function
  pub asked : Edge shader function tags (Required violation.severity) node
  pub site : IsSite shader function tags (Required violation.severity) node violation.site
  pub path : List Node
  pub least : IsLeastPath (Edge shader function tags) NodeLess node NonUniform path
  pub told : IsTold shader function tags (Required violation.severity ∷ path) violation.path

-- The violations of a module: each item is one and is told as it should be, each violation is told by an item, and the items ascend by
-- function, severity and the node that is asked for.
pub record AreViolations (shader : CoreModule) (tags : List (List Tag)) (violations : List Violation) : Type 0 where
  pub sound : (v : Violation) → Among v violations → Shows shader tags v (second_node v.path)
  pub complete : (number : ℕ) (severity : Severity) (node : Node) → IsViolation shader tags number severity node
      → (v : Violation) × Among v violations × (v.function ≡ number) × (v.severity ≡ severity) × (second_node v.path ≡ node)
  pub ordered : Ascends violations

-- how many nodes stand on the paths of violations, each a line of a report
abbrev pub violation_lines : List Violation → ℕ
violation_lines [] = 0
violation_lines (v ∷ violations) = length v.path + violation_lines violations

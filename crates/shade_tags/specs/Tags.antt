-- The tags of functions: what a path through a function joins that its callers see. (This project's rules, after WGSL, "Uniformity analysis",
-- "Analyzing functions": call-site, function and parameter tags.)
use Rattle.std.specs.Prelude.{◌≡◌, ℕ, ◌↔◌, List, [], ◌∷◌, length, Some, slice_get}
use Rattle.shade_base.specs.declared.severity.Severity.{Severity}
use Rattle.shade_core.specs.declared.module.CoreFunction.{CoreFunction}
use Rattle.shade_core.specs.declared.module.CoreModule.{CoreModule}
use Rattle.shade_core.specs.Chains.{Calls}
use Rattle.shade_graph.specs.declared.node.Node.{Node}
use Rattle.shade_graph.specs.declared.node.Node.TheVariants.{Required, NonUniform, Start, Param, ContentsIn, ContentsOut, Returned}
use Rattle.shade_graph.specs.declared.node.Tag.{Tag}
use Rattle.shade_graph.specs.Graph.{Among}
use Rattle.shade_reach.specs.Paths.{IsPath}
use Rattle.shade_uniformity.specs.Edges.{Edge, TagLess}

-- What a caller may need to be uniform of a function: what the function asks for, its result, and what its pointers lead to as it returns.
pub data IsSource : Node → Type 0 where
  required_source : {severity : Severity} → IsSource (Required severity)
  returned_source : IsSource Returned
  contents_source : {i : ℕ} → IsSource (ContentsOut i)

-- What this may come to: control at the call, what differs from lane to lane, arguments, and what pointers lead to as the function begins.
pub data IsTarget : Node → Type 0 where
  start_target : IsTarget Start
  non_uniform_target : IsTarget NonUniform
  parameter_target : {i : ℕ} → IsTarget (Param i)
  contents_target : {i : ℕ} → IsTarget (ContentsIn i)

-- A source and a target. That a function asks for what is not uniform itself is told of this function, and of none of its callers.
pub record IsPair (tag : Tag) : Type 0 where
  pub from : IsSource tag.source
  pub to : IsTarget tag.target
  pub passed_on : (severity : Severity) → tag.source ≡ Required severity → tag.target ≡ NonUniform → ⊥

-- a path leads from one node to another
abbrev pub Leads : (Node → Node → Type 0) → Node → Node → Type 0
Leads Joined u v = (path : List Node) × IsPath Joined u v path

-- The tags of the function with a number: each source and target that a path of it joins, over edges that tags of the functions give that it
-- calls. The least such pairs: what is no tag gives no edge.
pub data IsTag (shader : CoreModule) : ℕ → Tag → Type 0 where
  joins : {k : ℕ} {function : CoreFunction} {tag : Tag} {tags : List (List Tag)} → slice_get shader.functions k ≡ Some function → IsPair tag
      → ((g : ℕ) (of : List Tag) (other : Tag) → Calls shader k g → slice_get tags g ≡ Some of → Among other of → IsTag shader g other)
      → Leads (Edge shader function tags) tag.source tag.target → IsTag shader k tag

-- each item comes before all later ones
abbrev pub InOrder : {A : Type 0} → (A → A → Type 0) → List A → Type 0
InOrder Before [] = Unit {0}
InOrder {A} Before (x ∷ xs) = ((y : A) → Among y xs → Before x y) × InOrder Before xs

-- The tags of all functions, by function: exactly the tags of each, by source and target, each once.
pub record IsTable (shader : CoreModule) (tags : List (List Tag)) : Type 0 where
  pub long : length tags ≡ length shader.functions
  pub members : (k : ℕ) (of : List Tag) → slice_get tags k ≡ Some of → (tag : Tag) → Among tag of ↔ IsTag shader k tag
  pub ordered : (k : ℕ) (of : List Tag) → slice_get tags k ≡ Some of → InOrder TagLess of

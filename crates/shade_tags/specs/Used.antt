-- The tags that a report shows: those that its paths name, and those that the paths of such tags name. (This project's rule; WGSL has no such
-- report.)
use Rattle.std.specs.Prelude.{◌≡◌, ℕ, ◌+◌, ◌<◌, ◌⊎◌, List, [], ◌∷◌, length, Some, slice_get}
use Rattle.shade_core.specs.declared.module.CoreFunction.{CoreFunction}
use Rattle.shade_core.specs.declared.module.CoreModule.{CoreModule}
use Rattle.shade_graph.specs.declared.node.Node.{Node}
use Rattle.shade_graph.specs.declared.node.Tag.{Tag}
use Rattle.shade_graph.specs.declared.node.Via.{Via}
use Rattle.shade_graph.specs.Graph.{Among}
use Rattle.shade_graph.specs.Order.{NodeLess}
use Rattle.shade_reach.specs.Paths.{IsLeastPath}
use Rattle.shade_uniformity.specs.Edges.{Edge, TagLess}
use Rattle.shade_verdict.specs.declared.violation.PathStep.{PathStep}
use Rattle.shade_verdict.specs.declared.violation.Violation.{Violation}
use Rattle.shade_tags.specs.declared.used.UsedTag.{UsedTag}
use Rattle.shade_tags.specs.Tags.{InOrder}
use Rattle.shade_tags.specs.Violations.{IsTold, Shows}

-- a path that is told names a tag of a function: a step of it has this reason
pub record Names (steps : List PathStep) (callee : ℕ) (tag : Tag) : Type 0 where
  pub step : PathStep
  pub stands : Among step steps
  pub via : Via
  pub reason : step.via ≡ Some via
  pub of_callee : via.callee ≡ callee
  pub of_tag : via.tag ≡ tag

-- the least path of a tag, as it is told
pub record ShowsTag (shader : CoreModule) (tags : List (List Tag)) (number : ℕ) (tag : Tag) (steps : List PathStep) : Type 0 where
  pub function : CoreFunction
  pub numbered : slice_get shader.functions number ≡ Some function
  pub path : List Node
  pub least : IsLeastPath (Edge shader function tags) NodeLess tag.source tag.target path
  pub told : IsTold shader function tags path steps

-- The used tags, each with its function: those that the path of a violation names, and those that the path of a used tag names.
pub data IsUsed (shader : CoreModule) (tags : List (List Tag)) : ℕ → Tag → Type 0 where
  on_violation : {violation : Violation} {node : Node} {g : ℕ} {tag : Tag} → Shows shader tags violation node → Names violation.path g tag → IsUsed shader tags g tag
  on_tag : {k g : ℕ} {tag other : Tag} {steps : List PathStep} → IsUsed shader tags k tag → ShowsTag shader tags k tag steps → Names steps g other → IsUsed shader tags g other

-- by function, then by source and target
abbrev pub UsedLess : UsedTag → UsedTag → Type 0
UsedLess a b = (a.function < b.function) ⊎ ((a.function ≡ b.function) × TagLess a.tag b.tag)

-- The used tags of a module: exactly these, each once and with its least path.
pub record AreUsed (shader : CoreModule) (tags : List (List Tag)) (used : List UsedTag) : Type 0 where
  pub sound : (item : UsedTag) → Among item used → IsUsed shader tags item.function item.tag
  pub shown : (item : UsedTag) → Among item used → ShowsTag shader tags item.function item.tag item.path
  pub complete : (k : ℕ) (tag : Tag) → IsUsed shader tags k tag → (item : UsedTag) × Among item used × (item.function ≡ k) × (item.tag ≡ tag)
  pub ordered : InOrder UsedLess used

-- how many nodes stand on the paths of used tags, each a line of a report
abbrev pub tag_lines : List UsedTag → ℕ
tag_lines [] = 0
tag_lines (item ∷ used) = length item.path + tag_lines used

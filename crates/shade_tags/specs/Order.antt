-- In which order functions are analysed, and the limits of an analysis. (This project's rules, after WGSL, "Uniformity analysis": functions are
-- analysed callees first; the limits are this project's own.)
use Rattle.std.specs.Prelude.{◌≡◌, ℕ, ◌+◌, ◌<◌, ◌≤◌, ◌⊎◌, ◌↔◌, List, [], ◌∷◌, ◌++◌, length, Some, slice_get}
use Rattle.shade_core.specs.declared.module.CoreFunction.{CoreFunction}
use Rattle.shade_core.specs.declared.module.CoreModule.{CoreModule}
use Rattle.shade_core.specs.Chains.{Calls}
use Rattle.shade_graph.specs.declared.node.Node.{Node}
use Rattle.shade_graph.specs.declared.node.Tag.{Tag}
use Rattle.shade_graph.specs.Graph.{Among}
use Rattle.shade_uniformity.specs.Edges.{IsNode, Edge}
use Rattle.shade_verdict.specs.declared.violation.Violation.{Violation}
use Rattle.shade_tags.specs.declared.used.UsedTag.{UsedTag}
use Rattle.shade_tags.specs.Violations.{AreViolations, violation_lines}
use Rattle.shade_tags.specs.Used.{AreUsed, tag_lines}

-- ---- the order

-- a function that is not yet analysed, but all that it calls are
pub record IsReady (shader : CoreModule) (done : List ℕ) (k : ℕ) : Type 0 where
  pub stands : k < length shader.functions
  pub left : Among k done → ⊥
  pub callees : (g : ℕ) → Calls shader k g → Among g done

-- the first in text order that is ready
pub record IsNext (shader : CoreModule) (done : List ℕ) (k : ℕ) : Type 0 where
  pub ready : IsReady shader done k
  pub first : (j : ℕ) → IsReady shader done j → k ≤ j

-- The functions that are analysed, in order: each is the next one after those before it.
pub data IsOrder (shader : CoreModule) : List ℕ → Type 0 where
  none_yet : IsOrder shader []
  one_more : {done : List ℕ} {k : ℕ} → IsOrder shader done → IsNext shader done k → IsOrder shader (done ++ k ∷ [])

-- ---- the limits

-- how many things have a property
pub record AreAsMany {A : Type 0} (Has : A → Type 0) (count : ℕ) : Type 0 where
  pub items : List A
  pub members : (x : A) → Among x items ↔ Has x
  pub once : (i j : ℕ) (x : A) → slice_get items i ≡ Some x → slice_get items j ≡ Some x → i ≡ j
  pub long : length items ≡ count

-- the pairs of nodes that an edge joins
abbrev pub JoinedPair : CoreModule → CoreFunction → List (List Tag) → Node × Node → Type 0
JoinedPair shader function tags pair = Edge shader function tags pair.0 pair.1

abbrev pub most_nodes : ℕ
most_nodes = 1048576

abbrev pub most_edges : ℕ
most_edges = 4194304

abbrev pub most_lines : ℕ
most_lines = 4194304

-- the graph of a function has this many nodes, which are more than may be
pub record HasTooManyNodes (shader : CoreModule) (k count : ℕ) : Type 0 where
  pub function : CoreFunction
  pub numbered : slice_get shader.functions k ≡ Some function
  pub counted : AreAsMany (IsNode shader function) count
  pub past : most_nodes < count

-- the graph of a function has this many edges, which are more than may be
pub record HasTooManyEdges (shader : CoreModule) (tags : List (List Tag)) (k count : ℕ) : Type 0 where
  pub function : CoreFunction
  pub numbered : slice_get shader.functions k ≡ Some function
  pub counted : AreAsMany (JoinedPair shader function tags) count
  pub past : most_edges < count

-- the graph of a function keeps both limits
pub record IsWithin (shader : CoreModule) (tags : List (List Tag)) (k : ℕ) : Type 0 where
  pub nodes : (count : ℕ) → HasTooManyNodes shader k count → ⊥
  pub edges : (count : ℕ) → HasTooManyEdges shader tags k count → ⊥

-- a function is analysed next after some whose graphs keep the limits
pub record IsReached (shader : CoreModule) (tags : List (List Tag)) (k : ℕ) : Type 0 where
  pub done : List ℕ
  pub ordered : IsOrder shader done
  pub kept : (g : ℕ) → Among g done → IsWithin shader tags g
  pub next : IsNext shader done k

-- the first graph past a limit, in the order of analysis, nodes before edges
pub record IsFirstPastNodes (shader : CoreModule) (tags : List (List Tag)) (k count : ℕ) : Type 0 where
  pub reached : IsReached shader tags k
  pub past : HasTooManyNodes shader k count

pub record IsFirstPastEdges (shader : CoreModule) (tags : List (List Tag)) (k count : ℕ) : Type 0 where
  pub reached : IsReached shader tags k
  pub nodes : (more : ℕ) → HasTooManyNodes shader k more → ⊥
  pub past : HasTooManyEdges shader tags k count

-- all graphs keep the limits
abbrev pub AllAreWithin : CoreModule → List (List Tag) → Type 0
AllAreWithin shader tags = (k : ℕ) → k < length shader.functions → IsWithin shader tags k

-- a report with these violations and used tags has this many lines of paths
abbrev pub HasLines : List Violation → List UsedTag → ℕ → Type 0
HasLines violations used count = violation_lines violations + tag_lines used ≡ count

-- the paths of the report have this many lines, which are more than may be
pub record HasTooManyLines (shader : CoreModule) (tags : List (List Tag)) (count : ℕ) : Type 0 where
  pub within : AllAreWithin shader tags
  pub violations : List Violation
  pub are_violations : AreViolations shader tags violations
  pub used : List UsedTag
  pub are_used : AreUsed shader tags used
  pub lines : HasLines violations used count
  pub past : most_lines < count

-- The nodes and edges of a function's uniformity graph, and why an edge is there. An edge from u to v means: where u must be uniform, v
-- must be. (This project's rules, after WGSL, "Uniformity analysis".)
use Rattle.std.specs.Prelude.{◌≡◌, ℕ, ◌<◌, ◌≤◌, ◌⊎◌, true, Some, List, length, slice_get, IsSome}
use Rattle.shade_base.specs.declared.severity.Severity.{Severity}
use Rattle.shade_base.specs.declared.severity.Severity.TheVariants.{Error, Warning, Info}
use Rattle.shade_core.specs.declared.module.CoreFunction.{CoreFunction}
use Rattle.shade_core.specs.declared.module.CoreModule.{CoreModule}
use Rattle.shade_core.specs.declared.module.CoreParam.{CoreParam}
use Rattle.shade_core.specs.declared.statement.Argument.{Argument}
use Rattle.shade_core.specs.declared.statement.Base.TheVariants.{Pointee}
use Rattle.shade_core.specs.Code.{Code, call, code_of}
use Rattle.shade_flow.specs.Definitions.{tracked}
use Rattle.shade_graph.specs.declared.node.Node.{Node}
use Rattle.shade_graph.specs.declared.node.Node.TheVariants.{Required, NonUniform, Start, Param, ContentsIn, ContentsOut, Returned}
use Rattle.shade_graph.specs.declared.node.Tag.{Tag}
use Rattle.shade_graph.specs.declared.node.Via.{Via}
use Rattle.shade_graph.specs.Graph.{Differs}
use Rattle.shade_graph.specs.Order.{NodeLess}
use Rattle.shade_uniformity.specs.Structure.{Starts, Analysed}
use Rattle.shade_uniformity.specs.Rows.{StatementNode, Row, TagRow}

-- The nodes of a function. The standard's names: RequiredToBeUniform by severity, MayBeNonUniform, CF_start, param_i for each parameter, its
-- nodes for the contents of a pointer of space function as the function begins and as it returns, Value_return where there is a result.
-- Nodes of statements stand for analysed statements alone.
pub data IsNode (shader : CoreModule) (function : CoreFunction) : Node → Type 0 where
  required_error : IsNode shader function (Required Error)
  required_warning : IsNode shader function (Required Warning)
  required_info : IsNode shader function (Required Info)
  non_uniform : IsNode shader function NonUniform
  start : IsNode shader function Start
  parameter : {i : ℕ} → i < length function.params → IsNode shader function (Param i)
  contents_in : {i : ℕ} → tracked function (Pointee i) ≡ true → IsNode shader function (ContentsIn i)
  contents_out : {i : ℕ} → tracked function (Pointee i) ≡ true → IsNode shader function (ContentsOut i)
  returned : IsSome function.result → IsNode shader function Returned
  of_statement : {a u : Node} {here : Code} → Analysed Start (code_of function.body) a here → StatementNode shader function here u → IsNode shader function u

-- both ends stand: a node that does not is the end of no edge
pub record Joins (shader : CoreModule) (function : CoreFunction) (u v : Node) : Type 0 where
  pub from : IsNode shader function u
  pub to : IsNode shader function v

-- The analysed statement with a number gives an edge by a rule of its own kind.
pub record Gives (shader : CoreModule) (function : CoreFunction) (s : ℕ) (u v : Node) : Type 0 where
  pub ends : Joins shader function u v
  pub under : Node
  pub here : Code
  pub rest : Code
  pub stands : Analysed Start (code_of function.body) under here
  pub numbered : Starts here s rest
  pub row : Row shader function under here u v

-- The analysed call with a number gives an edge by a tag of the function that it calls.
pub record GivesByTag (shader : CoreModule) (function : CoreFunction) (tags : List (List Tag)) (via : Via) (u v : Node) : Type 0 where
  pub ends : Joins shader function u v
  pub under : Node
  pub args : List Argument
  pub rest : Code
  pub stands : Analysed Start (code_of function.body) under (call via.call via.callee args rest)
  pub row : TagRow function tags (call via.call via.callee args rest) via.tag u v

-- An edge by a rule other than those on tags: an input of an entry that differs from lane to lane, or what a statement gives.
pub data OwnEdge (shader : CoreModule) (function : CoreFunction) : Node → Node → Type 0 where
  differs : {i : ℕ} {param : CoreParam} → IsSome function.entry → slice_get function.params i ≡ Some param → Differs param → OwnEdge shader function (Param i) NonUniform
  given : {s : ℕ} {u v : Node} → Gives shader function s u v → OwnEdge shader function u v

-- The edges of a function, where the functions that it calls have these tags.
pub data Edge (shader : CoreModule) (function : CoreFunction) (tags : List (List Tag)) : Node → Node → Type 0 where
  own : {u v : Node} → OwnEdge shader function u v → Edge shader function tags u v
  by_tag : {via : Via} {u v : Node} → GivesByTag shader function tags via u v → Edge shader function tags u v

-- ---- why an edge is there

-- a statement gives an edge, by a rule of its own or by a tag
abbrev pub GivesAny : CoreModule → CoreFunction → List (List Tag) → ℕ → Node → Node → Type 0
GivesAny shader function tags s u v = Gives shader function s u v ⊎ ((via : Via) × (via.call ≡ s) × GivesByTag shader function tags via u v)

-- the site of an edge: the least statement that gives it
pub record IsSite (shader : CoreModule) (function : CoreFunction) (tags : List (List Tag)) (u v : Node) (s : ℕ) : Type 0 where
  pub gives : GivesAny shader function tags s u v
  pub least : (other : ℕ) → GivesAny shader function tags other u v → s ≤ other

-- tags by source and then by target
abbrev pub TagLess : Tag → Tag → Type 0
TagLess tag other = NodeLess tag.source other.source ⊎ ((tag.source ≡ other.source) × NodeLess tag.target other.target)

-- reasons by call and then by tag
abbrev pub ViaLess : Via → Via → Type 0
ViaLess via other = (via.call < other.call) ⊎ ((via.call ≡ other.call) × TagLess via.tag other.tag)

-- The reason of an edge that no other rule gives: the least call, and of its tags the least one.
pub record IsVia (shader : CoreModule) (function : CoreFunction) (tags : List (List Tag)) (u v : Node) (via : Via) : Type 0 where
  pub alone : OwnEdge shader function u v → ⊥
  pub gives : GivesByTag shader function tags via u v
  pub least : (other : Via) → GivesByTag shader function tags other u v → ViaLess other via → ⊥

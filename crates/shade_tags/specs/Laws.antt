-- Laws of tags.
use Rattle.std.specs.Prelude.{◌≡◌, ℕ, ◌<◌, ◌↔◌, List, length, Some, slice_get}
use Rattle.shade_core.specs.declared.module.CoreFunction.{CoreFunction}
use Rattle.shade_core.specs.declared.module.CoreModule.{CoreModule}
use Rattle.shade_core.specs.declared.statement.Argument.{Argument}
use Rattle.shade_core.specs.Code.{Code, call, code_of}
use Rattle.shade_core.specs.Chains.{Calls}
use Rattle.shade_graph.specs.declared.node.Node.{Node}
use Rattle.shade_graph.specs.declared.node.Node.TheVariants.{Start}
use Rattle.shade_graph.specs.declared.node.Tag.{Tag}
use Rattle.shade_graph.specs.Graph.{Among}
use Rattle.shade_uniformity.specs.Structure.{Analysed}
use Rattle.shade_uniformity.specs.Edges.{Edge, TagLess}
use Rattle.shade_tags.specs.Tags.{IsPair, IsTag, IsTable, InOrder, Leads}
use Rattle.shade_tags.specs.declared.used.UsedTag.{UsedTag}
use Rattle.shade_tags.specs.Used.{IsUsed, AreUsed}
use Rattle.shade_tags.specs.Order.{IsReady, IsOrder}

-- a source and a target that a path of a function joins, where the functions that it calls have some tags
abbrev pub JoinsPair : CoreModule → CoreFunction → List (List Tag) → Tag → Type 0
JoinsPair shader function tags tag = IsPair tag × Leads (Edge shader function tags) tag.source tag.target

-- a tag is listed for a function
abbrev pub IsListed : List (List Tag) → ℕ → Tag → Type 0
IsListed tags g tag = (of : List Tag) × (slice_get tags g ≡ Some of) × Among tag of

-- Where a table lists exactly the tags of the functions that a function calls, the tags of this function are the pairs that its paths join over
-- that table: what stands in the table for other functions does not matter.
abbrev pub ByCallees : Type 0
ByCallees = (shader : CoreModule) (tags : List (List Tag)) (k : ℕ) (function : CoreFunction) → slice_get shader.functions k ≡ Some function
    → ((g : ℕ) (tag : Tag) → Calls shader k g → IsListed tags g tag ↔ IsTag shader g tag) → (tag : Tag) → JoinsPair shader function tags tag ↔ IsTag shader k tag

-- a table lists for each function exactly the pairs that its paths join over this table
abbrev pub IsClosed : CoreModule → List (List Tag) → Type 0
IsClosed shader tags = (k : ℕ) (function : CoreFunction) (of : List Tag) → slice_get shader.functions k ≡ Some function → slice_get tags k ≡ Some of
    → (tag : Tag) → Among tag of ↔ JoinsPair shader function tags tag

-- The tags of a function are exactly the pairs that its paths join over the edges that the tags of its callees give.
abbrev pub ByPaths : Type 0
ByPaths = (shader : CoreModule) (tags : List (List Tag)) → IsTable shader tags → IsClosed shader tags

-- calls lead down, as they do where they make no cycle
pub record CallsDescend (shader : CoreModule) : Type 0 where
  pub depth : ℕ → ℕ
  pub falls : (k g : ℕ) → Calls shader k g → depth g < depth k

-- Where calls make no cycle, such a table is the table of the module: there is no other way to say what tags are.
abbrev pub ClosedIsTable : Type 0
ClosedIsTable = (shader : CoreModule) (tags : List (List Tag)) → CallsDescend shader → length tags ≡ length shader.functions → IsClosed shader tags
    → ((k : ℕ) (of : List Tag) → slice_get tags k ≡ Some of → InOrder TagLess of) → IsTable shader tags

-- A module has one table.
abbrev pub OneTable : Type 0
OneTable = (shader : CoreModule) (tags other : List (List Tag)) → IsTable shader tags → IsTable shader other → tags ≡ other

-- a function stands, and all that it calls are analysed
abbrev pub IsBehindCallees : CoreModule → List ℕ → ℕ → Type 0
IsBehindCallees shader done k = (k < length shader.functions) × ((g : ℕ) → Calls shader k g → Among g done)

-- Functions are analysed after those that they call.
abbrev pub CalleesFirst : Type 0
CalleesFirst = (shader : CoreModule) (done : List ℕ) → IsOrder shader done → (k : ℕ) → Among k done → IsBehindCallees shader done k

-- Where calls make no cycle, as long as some function is left one is ready: where none is, all are analysed.
abbrev pub AllAreAnalysed : Type 0
AllAreAnalysed = (shader : CoreModule) (done : List ℕ) → CallsDescend shader → ((k g : ℕ) → Calls shader k g → g < length shader.functions) → ((k : ℕ) → IsReady shader done k → ⊥)
    → (k : ℕ) → k < length shader.functions → Among k done

-- Used tags are tags of the functions that they are told of.
abbrev pub UsedAreTags : Type 0
UsedAreTags = (shader : CoreModule) (tags : List (List Tag)) → IsTable shader tags → (g : ℕ) (tag : Tag) → IsUsed shader tags g tag → IsTag shader g tag

-- no two analysed calls of a function have one number, as where statements are numbered in their order
abbrev pub CallsDiffer : CoreModule → Type 0
CallsDiffer shader = (k : ℕ) (function : CoreFunction) → slice_get shader.functions k ≡ Some function → (n g h : ℕ) (a b : Node) (args others : List Argument) (rest tail : Code)
    → Analysed Start (code_of function.body) a (call n g args rest) → Analysed Start (code_of function.body) b (call n h others tail) → g ≡ h

-- The used tags of a module are one list, with their paths and the reasons on them.
abbrev pub OneUsed : Type 0
OneUsed = (shader : CoreModule) → CallsDiffer shader → (tags : List (List Tag)) (one other : List UsedTag) → AreUsed shader tags one → AreUsed shader tags other → one ≡ other

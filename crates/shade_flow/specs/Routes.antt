-- The ways of a function by number, and the tables of bits that a chunk of definitions is searched with.
use Rattle.std.specs.Prelude.{◌≡◌, ℕ, ◌-◌, ◌^◌, ◌<◌, ◌≤◌, List, [], ◌∷◌, ◌++◌, length, replicate}
use Rattle.shade_core.specs.Code.{Code}
use Rattle.shade_reach.specs.Digraph.{JoinsNodes}
use Rattle.shade_flow.specs.declared.definition.Defined.{Defined}
use Rattle.shade_flow.specs.declared.point.Point.TheVariants.{Past}
use Rattle.shade_flow.specs.declared.routes.Routes.{Routes}
use Rattle.shade_flow.specs.declared.chunk.Chunk.{Chunk}
use Rattle.shade_flow.specs.Bits.{AreReached}
use Rattle.shade_flow.specs.Flow.{entry}
use Rattle.shade_flow.specs.Tables.{number, AreWays, made_at, begun_at, AreBits, AreStopped}
use Rattle.shade_flow.specs.Writes.{writes_of}

-- the graph has the nodes that are counted
pub record IsJoined (routes : Routes) : Type 0 where
  pub nodes : routes.nodes ≡ routes.graph.nodes
  pub ends : JoinsNodes routes.nodes routes.graph.edges

-- the ways, the entry and the writes are those of a body
pub record IsRoutesOf (body : Code) (routes : Routes) : Type 0 where
  pub joined : IsJoined routes
  pub ways : AreWays body routes.graph.edges
  pub first : routes.first ≡ number (entry body Past)
  pub within : routes.first < routes.nodes
  pub writes : routes.writes.items ≡ writes_of body

-- the rows of a chunk are those that a search gave for the tables of its definitions
pub record IsSearched (routes : Routes) (chunk : Chunk) : Type 0 where
  pub few : length chunk.definitions.items ≤ 64
  pub starts : List ℕ
  pub makes : List ℕ
  pub passes : List ℕ
  pub reached : AreReached routes.graph.edges starts makes passes chunk.rows.items
  pub begun : AreBits (begun_at routes.first) chunk.definitions.items (length chunk.definitions.items) routes.nodes starts
  pub made : AreBits made_at chunk.definitions.items (length chunk.definitions.items) routes.nodes makes
  pub stopped : AreStopped chunk.definitions.items routes.writes.items (replicate routes.nodes (2 ^ 64 - 1)) passes

-- the definitions of some chunks, one chunk after another
abbrev pub defined_in : List Chunk → List Defined
defined_in [] = []
defined_in (chunk ∷ later) = chunk.definitions.items ++ defined_in later

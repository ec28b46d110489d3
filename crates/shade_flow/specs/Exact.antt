-- Chunks of definitions whose rows are right, and the list that is made of them.
use Rattle.std.specs.Prelude.{◌≡◌, ℕ, ◌↔◌, true, IsTrue, Some, slice_get, List, [], ◌∷◌}
use Rattle.shade_core.specs.declared.module.CoreFunction.{CoreFunction}
use Rattle.shade_core.specs.declared.statement.Base.{Base}
use Rattle.shade_core.specs.Code.{Code, code_of}
use Rattle.shade_core.specs.Standing.{statements, are_numbered}
use Rattle.shade_flow.specs.declared.definition.Definition.{Definition}
use Rattle.shade_flow.specs.declared.definition.Defined.{Defined}
use Rattle.shade_flow.specs.declared.point.Point.TheVariants.{At}
use Rattle.shade_flow.specs.declared.chunk.Chunk.{Chunk}
use Rattle.shade_flow.specs.declared.kept.Reaching.{Reaching}
use Rattle.shade_flow.specs.Lists.{In}
use Rattle.shade_flow.specs.Bits.{AreReached}
use Rattle.shade_flow.specs.Flow.{Reaches}
use Rattle.shade_flow.specs.Chosen.{Ascends}
use Rattle.shade_flow.specs.Definitions.{tracked, definitions_of}
use Rattle.shade_flow.specs.Routes.{defined_in}
use Rattle.shade_flow.specs.Tables.{AreWays, IsBitOf}

-- the rows are those that the search gave for tables in which each definition has its bit
pub record IsChunkOf (body : Code) (edges : List (ℕ × ℕ)) (chunk : Chunk) : Type 0 where
  pub starts : List ℕ
  pub makes : List ℕ
  pub passes : List ℕ
  pub reached : AreReached edges starts makes passes chunk.rows.items
  pub bits : (place : ℕ) (defined : Defined) → slice_get chunk.definitions.items place ≡ Some defined → IsBitOf body defined.variable defined.by place starts makes passes

abbrev pub AreChunksOf : Code → List (ℕ × ℕ) → List Chunk → Type 0
AreChunksOf body edges [] = Unit {0}
AreChunksOf body edges (chunk ∷ later) = IsChunkOf body edges chunk × AreChunksOf body edges later

-- the statements of a body are numbered 0, 1, 2 and so on in structure order, as the shape of a module has it
abbrev pub IsNumbered : Code → Type 0
IsNumbered body = IsTrue (are_numbered 0 (statements body))

-- What is kept of a function: all its definitions in order, each with right bits if the function's statements are numbered in order.
pub record AreKeptOf (function : CoreFunction) (chunks : List Chunk) : Type 0 where
  pub edges : List (ℕ × ℕ)
  pub ways : AreWays (code_of function.body) edges
  pub right : IsNumbered (code_of function.body) → AreChunksOf (code_of function.body) edges chunks
  pub all : defined_in chunks ≡ definitions_of function

abbrev pub IsReachingOf : CoreFunction → Reaching → Type 0
IsReachingOf function reaching = AreKeptOf function reaching.chunks.items

-- The list has exactly the definitions of a variable that reach the point before a statement, each once and in their order.
pub record IsBefore (function : CoreFunction) (statement : ℕ) (variable : Base) (found : List Definition) : Type 0 where
  pub exact : (by : Definition) → In by found ↔ Reaches (code_of function.body) variable by (At statement)
  pub ascends : Ascends found

-- What is read of something kept: for each function of which that is kept, whose statements are numbered in structure order, and
-- each tracked variable of it, exactly the definitions that reach.
abbrev pub IsReadOf : Reaching → ℕ → Base → List Definition → Type 0
IsReadOf kept statement variable found =
    (function : CoreFunction) → IsReachingOf function kept → IsNumbered (code_of function.body) → tracked function variable ≡ true → IsBefore function statement variable found

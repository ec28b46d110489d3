-- The edges that analysed statements give, by the numbers of their nodes (AreGiven is a rule; the rest is on the way to proofs).
use Rattle.std.specs.Prelude.{◌≡◌, ◌↔◌, ◌⊎◌, ℕ, ◌<◌, Some, List, [], ◌∷◌, ◌++◌, length, slice_get}
use Rattle.shade_core.specs.declared.module.CoreFunction.{CoreFunction}
use Rattle.shade_core.specs.declared.module.CoreModule.{CoreModule}
use Rattle.shade_graph.specs.declared.node.Node.{Node}
use Rattle.shade_graph.specs.Graph.{Among}
use Rattle.shade_graph.specs.Numbered.{Has}
use Rattle.shade_uniformity.specs.declared.edges.Joined.{Joined}
use Rattle.shade_uniformity.specs.declared.rows.Given.{Given}
use Rattle.shade_uniformity.specs.Edges.{Gives}

abbrev pub joined : ℕ → ℕ → ℕ → Joined
joined n i j = record { statement = n; from = i; to = j }

-- The edges are exactly those that analysed statements give by the rules of their own kinds, each with its statement, and by the places of its
-- nodes in the list of nodes.
pub record AreGiven (shader : CoreModule) (function : CoreFunction) (nodes : List Node) (edges : List Joined) : Type 0 where
  pub within : (edge : Joined) → Among edge edges → (edge.from < length nodes) × (edge.to < length nodes)
  pub exact : (n i j : ℕ) (u v : Node) → slice_get nodes i ≡ Some u → slice_get nodes j ≡ Some v → Among (joined n i j) edges ↔ Gives shader function n u v

-- The edges are the rows whose ends have places.
pub record AreJoined (nodes : List Node) (rows : List Given) (edges : List Joined) : Type 0 where
  pub sound : (edge : Joined) → Among edge edges → (row : Given) × Among row rows × (edge.statement ≡ row.statement) × (slice_get nodes edge.from ≡ Some row.from) × (slice_get nodes edge.to ≡ Some row.to)
  pub complete : (row : Given) → Among row rows → Has nodes row.from → Has nodes row.to
      → (edge : Joined) × Among edge edges × (edge.statement ≡ row.statement) × (slice_get nodes edge.from ≡ Some row.from) × (slice_get nodes edge.to ≡ Some row.to)

-- what one row adds: an edge where both its ends have places, else nothing
abbrev pub Keeps : List Node → Given → List Joined → List Joined → Type 0
Keeps nodes row old new =
    ((i : ℕ) × (j : ℕ) × (slice_get nodes i ≡ Some row.from) × (slice_get nodes j ≡ Some row.to) × (new ≡ old ++ joined row.statement i j ∷ []))
    ⊎ ((new ≡ old) × ((Has nodes row.from → ⊥) ⊎ (Has nodes row.to → ⊥)))

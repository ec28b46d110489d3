-- Edges in compressed rows: the targets of all edges in one list, and for each node the place where its row starts.
use Rattle.std.specs.Prelude.{◌≡◌, ℕ, ◌+◌, ◌-◌, ◌<◌, ◌≤◌, List, [], ◌∷◌, length, slice_index_or, nat_le, if◌then◌else◌}
use Rattle.shade_reach.specs.Digraph.{JoinsNodes, HasEdge}

-- the ends of the edge at a place
abbrev pub source_at : List (ℕ × ℕ) → ℕ → ℕ
source_at edges k = (slice_index_or edges k (0, 0)).0

abbrev pub target_at : List (ℕ × ℕ) → ℕ → ℕ
target_at edges k = (slice_index_or edges k (0, 0)).1

-- edges by their source, and those of one source by their target, each once
pub record IsAscending (edges : List (ℕ × ℕ)) : Type 0 where
  pub sources : (j k : ℕ) → j < k → k < length edges → source_at edges j ≤ source_at edges k
  pub targets : (j k : ℕ) → j < k → k < length edges → source_at edges j ≡ source_at edges k → target_at edges j < target_at edges k

-- the edges before a place are those from the nodes below this one
pub record IsRowStart (edges : List (ℕ × ℕ)) (node start : ℕ) : Type 0 where
  pub within : start ≤ length edges
  pub before : (k : ℕ) → k < start → source_at edges k < node
  pub after : (k : ℕ) → start ≤ k → k < length edges → node ≤ source_at edges k

-- the start of each row, and of a last one that is empty
pub record AreRowStarts (edges : List (ℕ × ℕ)) (nodes : ℕ) (starts : List ℕ) : Type 0 where
  pub long : length starts ≡ nodes + 1
  pub each : (node : ℕ) → node ≤ nodes → IsRowStart edges node (slice_index_or starts node 0)

-- how many rows start at a place or before it
abbrev pub started : List ℕ → ℕ → ℕ
started [] k = 0
started (start ∷ starts) k = if nat_le start k then started starts k + 1 else 0

abbrev pub edges_from : List ℕ → ℕ → List ℕ → List (ℕ × ℕ)
edges_from starts k [] = []
edges_from starts k (target ∷ targets) = (started starts k - 1, target) ∷ edges_from starts (k + 1) targets

-- the edges that rows hold
abbrev pub edges_of : List ℕ → List ℕ → List (ℕ × ℕ)
edges_of starts targets = edges_from starts 0 targets

pub record IsRows (starts targets : List ℕ) : Type 0 where
  pub ascending : IsAscending (edges_of starts targets)
  pub rows : AreRowStarts (edges_of starts targets) (length starts - 1) starts
  pub joined : JoinsNodes (length starts - 1) (edges_of starts targets)

-- the edges of the one list are those of the other, turned round
pub record AreTurned (old new : List (ℕ × ℕ)) : Type 0 where
  pub turned : (from to : ℕ) → HasEdge old from to → HasEdge new to from
  pub back : (from to : ℕ) → HasEdge new to from → HasEdge old from to

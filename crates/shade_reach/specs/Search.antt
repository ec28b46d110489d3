-- The state of a breadth-first search towards a target, over whatever joins the nodes.
use Rattle.std.specs.Prelude.{◌≡◌, ℕ, ◌+◌, ◌<◌, ◌≤◌, ◌⊎◌, ◌↔◌, List, [], ◌∷◌, ◌++◌, length, Option, None, Some, Contains, slice_get, slice_set}
use Rattle.shade_reach.specs.Paths.{Walk}
use Rattle.shade_reach.specs.Digraph.{HasEdge, Digraph}
use Rattle.shade_reach.specs.Rows.{AreTurned}

-- the nodes from which an edge leads to a node
abbrev pub AreSources : List (ℕ × ℕ) → ℕ → List ℕ → Type 0
AreSources edges node sources = (from : ℕ) → Contains sources from ↔ HasEdge edges from node

-- rows of the edges, and rows of the edges turned round
pub record AreBothWays (nodes : ℕ) (forward backward : Digraph) : Type 0 where
  pub forward_nodes : forward.nodes ≡ nodes
  pub backward_nodes : backward.nodes ≡ nodes
  pub turned : AreTurned forward.edges backward.edges

-- a node is marked with this distance
abbrev pub IsMarked : List (Option ℕ) → ℕ → ℕ → Type 0
IsMarked distances node distance = slice_get distances node ≡ Some (Some distance)

abbrev pub IsMarkedWithin : List (Option ℕ) → ℕ → ℕ → Type 0
IsMarkedWithin distances node most = (distance : ℕ) × IsMarked distances node distance × (distance ≤ most)

-- how many are not marked
abbrev pub unmarked : List (Option ℕ) → ℕ
unmarked [] = 0
unmarked (None ∷ distances) = unmarked distances + 1
unmarked (Some _ ∷ distances) = unmarked distances

-- marks a node and lists it, unless it is marked
abbrev pub Marks : List (Option ℕ) → List ℕ → ℕ → ℕ → List (Option ℕ) → List ℕ → Type 0
Marks distances found node distance new_distances new_found =
    ((slice_get distances node ≡ Some None) × (new_distances ≡ slice_set distances node (Some distance)) × (new_found ≡ found ++ node ∷ []))
    ⊎ ((other : ℕ) × IsMarked distances node other × (new_distances ≡ distances) × (new_found ≡ found))

-- Found nodes are marked by walks, and listed nearest first; each node before `next` has passed its distance on.
pub record IsSearch (Joined : ℕ → ℕ → Type 0) (nodes target : ℕ) (distances : List (Option ℕ)) (found : List ℕ) (next : ℕ) : Type 0 where
  pub long : length distances ≡ nodes
  pub count : length found + unmarked distances ≡ nodes
  pub start : IsMarked distances target 0
  pub walks : (node distance : ℕ) → IsMarked distances node distance → (rest : List ℕ) × (length rest ≡ distance) × Walk Joined node target rest
  pub listed : (node distance : ℕ) → IsMarked distances node distance → (i : ℕ) × (slice_get found i ≡ Some node)
  pub marked : (i node : ℕ) → slice_get found i ≡ Some node → IsMarkedWithin distances node i
  pub ordered : (i j near far near_distance far_distance : ℕ) → i ≤ j → slice_get found i ≡ Some near → slice_get found j ≡ Some far → IsMarked distances near near_distance → IsMarked distances far far_distance → near_distance ≤ far_distance
  pub bound : (here here_distance node distance : ℕ) → slice_get found next ≡ Some here → IsMarked distances here here_distance → IsMarked distances node distance → distance ≤ here_distance + 1
  pub closed : (i node distance from : ℕ) → i < next → slice_get found i ≡ Some node → IsMarked distances node distance → Joined from node → IsMarkedWithin distances from (distance + 1)

-- the nodes of a list up to a place are marked
abbrev pub AreMarked : List ℕ → ℕ → ℕ → List (Option ℕ) → Type 0
AreMarked sources index most distances = (k source : ℕ) → k < index → slice_get sources k ≡ Some source → IsMarkedWithin distances source most

-- the least node of a list that is marked with this distance
pub record IsFirstAt (nodes : List ℕ) (distances : List (Option ℕ)) (distance first : ℕ) : Type 0 where
  pub listed : Contains nodes first
  pub marked : IsMarked distances first distance
  pub least : (node : ℕ) → Contains nodes node → IsMarked distances node distance → first ≤ node

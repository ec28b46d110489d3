-- Paths, as lists whose neighbours a relation joins, and the least of them by a relation that orders nodes.
-- Nothing here says how a path is found.
use Rattle.std.specs.Prelude.{◌≡◌, ℕ, ◌<◌, ◌≤◌, ◌⊎◌, List, [], ◌∷◌, length}

-- the nodes after the first one, `from`, on a path that ends at `to`: each is joined to the one before it
abbrev pub Walk : {A : Type 0} → (A → A → Type 0) → A → A → List A → Type 0
Walk Joined from to [] = from ≡ to
Walk Joined from to (next ∷ rest) = Joined from next × Walk Joined next to rest

-- a path begins with its first node
abbrev pub IsPath : {A : Type 0} → (A → A → Type 0) → A → A → List A → Type 0
IsPath Joined from to [] = ⊥
IsPath Joined from to (first ∷ rest) = (first ≡ from) × Walk Joined from to rest

-- no path leads from one node to the other
abbrev pub NoPath : {A : Type 0} → (A → A → Type 0) → A → A → Type 0
NoPath {A} Joined from to = (path : List A) → IsPath Joined from to path → ⊥

-- two lists as long as each other: the first is before the other at the first difference, or they do not differ
abbrev pub InOrder : {A : Type 0} → (A → A → Type 0) → List A → List A → Type 0
InOrder Before [] ys = Unit {0}
InOrder Before (x ∷ xs) [] = ⊥
InOrder Before (x ∷ xs) (y ∷ ys) = Before x y ⊎ ((x ≡ y) × InOrder Before xs ys)

-- shorter; or as long, and before the other at the first difference, or the same
abbrev pub NotAfter : {A : Type 0} → (A → A → Type 0) → List A → List A → Type 0
NotAfter Before xs ys = (length xs < length ys) ⊎ ((length xs ≡ length ys) × InOrder Before xs ys)

-- the shortest walk, and among the shortest the one that is before the others at the first difference
pub record IsLeast {A : Type 0} (Joined Before : A → A → Type 0) (from to : A) (rest : List A) : Type 0 where
  pub walk : Walk Joined from to rest
  pub least : (other : List A) → Walk Joined from to other → NotAfter Before rest other

-- The least path: all paths from a node begin with it, and so the rest of them decides.
abbrev pub IsLeastPath : {A : Type 0} → (A → A → Type 0) → (A → A → Type 0) → A → A → List A → Type 0
IsLeastPath Joined Before from to [] = ⊥
IsLeastPath Joined Before from to (first ∷ rest) = (first ≡ from) × IsLeast Joined Before from to rest

-- the number of edges on a shortest path
pub record IsDistance {A : Type 0} (Joined : A → A → Type 0) (from to : A) (distance : ℕ) : Type 0 where
  pub reached : (rest : List A) × (length rest ≡ distance) × Walk Joined from to rest
  pub least : (rest : List A) → Walk Joined from to rest → distance ≤ length rest

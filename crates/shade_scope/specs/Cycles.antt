-- Declarations of the module that need themselves, directly or through others (WGSL, "Declaration and Scope", "Functions"): each use
-- leads from the declaration that holds it to the one that it means.
use Rattle.std.specs.Prelude.{◌≡◌, ◌+◌, ◌<◌, ◌≤◌, ◌^◌, All, ℕ, IsTrue, Bool, true, false, List, ◌∷◌, map, Contains, Option, Some, None, slice_get}
use Rattle.shade_ast.specs.declared.tree.Decl.{Decl}
use Rattle.shade_reach.specs.Paths.{Walk}
use Rattle.shade_reach.specs.Digraph.{HasEdge, JoinsNodes}
use Rattle.shade_scope.specs.declared.fault.ScopeFault.{ScopeFault}
use Rattle.shade_scope.specs.declared.fault.ScopeFault.TheVariants as fault
use Rattle.shade_scope.specs.declared.cycles.Head.{Head}
use Rattle.shade_scope.specs.declared.cycles.Ranked.{Ranked}
use Rattle.shade_events.specs.Events.{declared_node}

-- a way leads from a node back to it, of one step or more
abbrev pub Cyclic : List (ℕ × ℕ) → ℕ → Type 0
Cyclic links node = (next : ℕ) × (rest : List ℕ) × Walk (HasEdge links) node node (next ∷ rest)

-- the ends of links have numbers below the greatest of 32 bits, so that they can be counted
abbrev pub AreSmall : List (ℕ × ℕ) → Type 0
AreSmall links = All (λ link. (link.0 + 1 < 2 ^ 32) × (link.1 + 1 < 2 ^ 32)) links

-- a declaration, by its node and the place of its first token
abbrev pub head_of : Decl → Head
head_of d = record { node = declared_node d; place = d.place }

abbrev pub heads_of : List Decl → List Head
heads_of decls = map head_of decls

-- a declaration that needs itself is told where it begins
abbrev pub IsCycle : List (ℕ × ℕ) → List Head → ScopeFault → Type 0
IsCycle links heads f = (h : Head) × Contains heads h × Cyclic links h.node × (f ≡ fault.Cycle h.place)

-- ---- a search, as its code sees it

abbrev pub is_distance : Option (Option ℕ) → Bool
is_distance (Some (Some distance)) = true
is_distance (Some None) = false
is_distance None = false

abbrev pub is_reached : List (Option ℕ) → ℕ → Bool
is_reached distances node = is_distance (slice_get distances node)

-- ---- ranks

abbrev pub or_zero : Option ℕ → ℕ
or_zero None = 0
or_zero (Some n) = n

abbrev pub kept : List ℕ → ℕ → ℕ
kept items node = or_zero (slice_get items node)

-- no edge leads to a higher rank
abbrev pub NeverRises : List (ℕ × ℕ) → List ℕ → Type 0
NeverRises edges ranks = (from to : ℕ) → HasEdge edges from to → kept ranks to ≤ kept ranks from

pub record IsRanked (r : Ranked) : Type 0 where
  pub nodes : r.nodes ≡ r.graph.nodes
  pub joins : JoinsNodes r.nodes r.graph.edges
  pub steady : IsTrue r.steady → NeverRises r.graph.edges r.ranks

-- The answer about a tree: what its names mean and how grave violations are, or the first fault.
use Rattle.std.specs.Prelude.{◌≡◌, ℕ, ◌⊎◌, List, [], ◌∷◌, map, Contains, Option, Some, None, Result, Ok, Err, ⊤}
use Rattle.shade_ast.specs.declared.tree.Tree.{Tree}
use Rattle.shade_ast.specs.Nodes.{tree_nodes}
use Rattle.shade_scope.specs.declared.fault.ScopeFault.{ScopeFault}
use Rattle.shade_scope.specs.declared.fault.ScopeFault.TheVariants as fault
use Rattle.shade_scope.specs.declared.scoped.Meaning.{Meaning}
use Rattle.shade_scope.specs.declared.scoped.Scoped.{Scoped}
use Rattle.std.specs.List.{flat_map}
use Rattle.shade_events.specs.declared.event.Event.{Event}
use Rattle.shade_events.specs.declared.event.Event.TheVariants as event
use Rattle.shade_events.specs.Events.{tree_events}
use Rattle.shade_scope.specs.Scopes.{links, resolved, start, told}
use Rattle.shade_scope.specs.Conflicts.{conflicts}
use Rattle.shade_scope.specs.Cycles.{IsCycle, heads_of}
use Rattle.shade_scope.specs.Ranges.{AreSeverities}
use Rattle.shade_scope.specs.Faults.{IsLeast}

-- which declarations of the module use which
abbrev pub tree_links : Tree → List (ℕ × ℕ)
tree_links t = links start (tree_events t)

-- the faults of single names, loops and severities
abbrev pub tree_told : Tree → List ScopeFault
tree_told t = told t.names start (tree_events t)

abbrev pub tree_conflicts : Tree → List ScopeFault
tree_conflicts t = conflicts [] (tree_events t)

abbrev pub IsFault : Tree → ScopeFault → Type 0
IsFault t f = (Contains (tree_told t) f ⊎ Contains (tree_conflicts t) f) ⊎ IsCycle (tree_links t) (heads_of t.decls) f

-- the nodes of some events, by their numbers
abbrev pub node_in : Event → List ℕ
node_in (event.Node node) = node ∷ []
node_in _ = []

abbrev pub event_nodes : List Event → List ℕ
event_nodes events = flat_map node_in events

-- what each use of a name means, by its node, with a place for each node of the tree
abbrev pub tree_uses : Tree → List (Option Meaning)
tree_uses t = resolved t.names start (tree_events t) (map (λ node. None) (tree_nodes t))

pub record IsScoped (t : Tree) (s : Scoped) : Type 0 where
  pub none : (f : ScopeFault) → IsFault t f → ⊥
  pub tree : s.tree ≡ t
  pub uses : s.uses ≡ tree_uses t
  pub filters : AreSeverities t s.filters

-- the first fault; want of memory may come in place of each answer
abbrev pub IsRefused : Tree → ScopeFault → Type 0
IsRefused t fault.NoMemory = ⊤
IsRefused t (fault.Unknown place) = IsLeast (IsFault t) (Some (fault.Unknown place))
IsRefused t (fault.Twice place) = IsLeast (IsFault t) (Some (fault.Twice place))
IsRefused t (fault.Cycle place) = IsLeast (IsFault t) (Some (fault.Cycle place))
IsRefused t (fault.EntryCalled place) = IsLeast (IsFault t) (Some (fault.EntryCalled place))
IsRefused t (fault.ContinueSkips place) = IsLeast (IsFault t) (Some (fault.ContinueSkips place))
IsRefused t (fault.BadSeverity place) = IsLeast (IsFault t) (Some (fault.BadSeverity place))
IsRefused t (fault.Conflict place) = IsLeast (IsFault t) (Some (fault.Conflict place))

abbrev pub IsResolved : Tree → Result Scoped ScopeFault → Type 0
IsResolved t (Ok s) = IsScoped t s
IsResolved t (Err f) = IsRefused t f

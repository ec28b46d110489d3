-- On the way: what the code keeps of a context. Of the `continue`s of a loop it keeps the first: where any skips a declaration, that one does.
use Rattle.std.specs.Prelude.{ℕ, Bool, true, false, ◌&&◌, List, [], ◌∷◌, ◌++◌, map, Option, None, Some, ◌==◌, nat_lt, nat_le, if◌then◌else◌}
use Rattle.std.specs.List.{flat_map}
use Rattle.shade_base.specs.declared.place.Place.{Place}
use Rattle.shade_ast.specs.declared.expr.Named.{Named}
use Rattle.shade_events.specs.declared.event.Event.{Event}
use Rattle.shade_events.specs.declared.event.Event.TheVariants as event
use Rattle.shade_scope.specs.declared.fault.ScopeFault.{ScopeFault}
use Rattle.shade_scope.specs.declared.fault.ScopeFault.TheVariants as fault
use Rattle.shade_scope.specs.declared.bound.Bound.{Bound}
use Rattle.shade_scope.specs.declared.naming.OpenLoop.{OpenLoop}
use Rattle.shade_scope.specs.declared.naming.State.{State}
use Rattle.shade_scope.specs.InForce.{InForce, Loop, Context, without_last, on_last}
use Rattle.shade_scope.specs.Predeclared.{is_predeclared_name}
use Rattle.shade_scope.specs.Scopes.{closed, called_entry, declared, depth, found, is_declared, opened, unknown}

-- ---- what is kept

abbrev pub first_of : Option Place → Place → Option Place
first_of None place = Some place
first_of (Some first) place = Some (if nat_le place.offset first.offset then place else first)

abbrev pub first_in : List Place → Option Place
first_in [] = None
first_in (place ∷ places) = first_of (first_in places) place

abbrev pub seen_loop : Loop → OpenLoop
seen_loop l = record { depth = l.depth; turning = l.turning; first = first_in l.continues }

abbrev pub seen : Context → State
seen c = record { scopes = c.scopes; loops = map seen_loop c.loops; within = c.within }

-- ---- an event

abbrev pub begun : ℕ → OpenLoop
begun depth = record { depth = depth; turning = false; first = None }

abbrev pub continued : Place → OpenLoop → OpenLoop
continued place l = record { depth = l.depth; turning = l.turning; first = first_of l.first place }

abbrev pub turned : OpenLoop → OpenLoop
turned l = record { depth = l.depth; turning = true; first = l.first }

abbrev pub with_scopes : State → InForce → State
with_scopes s scopes = record { scopes = scopes; loops = s.loops; within = s.within }

abbrev pub with_loops : State → List OpenLoop → State
with_loops s loops = record { scopes = s.scopes; loops = loops; within = s.within }

abbrev pub next : State → Event → State
next s event.Opens = with_scopes s (opened s.scopes)
next s event.Closes = with_scopes s (closed s.scopes)
next s (event.Declares n entry) = with_scopes s (declared n entry s.scopes)
next s (event.Enters node) = record { scopes = s.scopes; loops = s.loops; within = node }
next s event.Loops = with_loops s (s.loops ++ begun (depth s.scopes) ∷ [])
next s (event.Continues place) = with_loops s (on_last (continued place) s.loops)
next s event.Turns = with_loops s (on_last turned s.loops)
next s event.LoopEnds = with_loops s (without_last s.loops)
next s _ = s

-- ---- faults

abbrev pub before : Option Place → Place → List ScopeFault
before None place = []
before (Some first) place = if nat_lt first.offset place.offset then fault.ContinueSkips first ∷ [] else []

abbrev pub skip : Bound → OpenLoop → List ScopeFault
skip b l = if l.turning && (l.depth == b.depth) then before l.first b.place else []

abbrev pub use_faults : List (List ℕ) → State → Named → Bool → Option Bound → List ScopeFault
use_faults names s n called None = unknown (is_predeclared_name names n.name) n.place
use_faults names s n called (Some b) = called_entry (called && b.entry) n.place ++ flat_map (skip b) s.loops

abbrev pub faults : List (List ℕ) → State → Event → List ScopeFault
faults names s (event.Declares n entry) = if is_declared s.scopes n.name then fault.Twice n.place ∷ [] else []
faults names s (event.Uses n called) = use_faults names s n called (found s.scopes n.name)
faults names s (event.LacksSeverity place) = fault.BadSeverity place ∷ []
faults names s _ = []

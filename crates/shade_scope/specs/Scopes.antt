-- What is in force at each event of a text, and what each use of a name means (WGSL, "Declaration and Scope"). The declarations of
-- the module come first, so that they are in force everywhere; each other one is in force behind its own text, to the end of its
-- scope. An inner declaration hides an outer one, and a declaration hides a predeclared word.
use Rattle.std.specs.Prelude.{ℕ, Bool, true, false, ◌&&◌, List, [], ◌∷◌, ◌++◌, length, take, Option, None, Some, slice_set, ◌==◌, nat_lt, if◌then◌else◌}
use Rattle.std.specs.List.{flat_map}
use Rattle.shade_base.specs.declared.place.Place.{Place}
use Rattle.shade_ast.specs.declared.expr.Named.{Named}
use Rattle.shade_events.specs.declared.event.Event.{Event}
use Rattle.shade_events.specs.declared.event.Event.TheVariants as event
use Rattle.shade_scope.specs.declared.fault.ScopeFault.{ScopeFault}
use Rattle.shade_scope.specs.declared.fault.ScopeFault.TheVariants as fault
use Rattle.shade_scope.specs.declared.bound.Bound.{Bound}
use Rattle.shade_scope.specs.declared.scoped.Meaning.{Meaning}
use Rattle.shade_scope.specs.declared.scoped.Meaning.TheVariants as meaning
use Rattle.shade_scope.specs.InForce.{InForce, Loop, Context, without_last, on_last}
use Rattle.shade_scope.specs.Predeclared.{is_predeclared_name}

-- ---- declarations in force

-- the last of some declarations that has a name
abbrev pub one_if : Bool → Bound → Option Bound
one_if true b = Some b
one_if false b = None

abbrev pub or_else : Option Bound → Option Bound → Option Bound
or_else (Some b) other = Some b
or_else None other = other

abbrev pub newest : List Bound → ℕ → Option Bound
newest [] name = None
newest (b ∷ bs) name = or_else (newest bs name) (one_if (b.name == name) b)

-- the declaration that a name means: the newest in force
abbrev pub found : InForce → ℕ → Option Bound
found s name = newest s.bounds name

abbrev pub depth : InForce → ℕ
depth s = length s.opened

abbrev pub is_inner : InForce → Option Bound → Bool
is_inner s None = false
is_inner s (Some b) = b.depth == depth s

-- whether the innermost scope declares a name
abbrev pub is_declared : InForce → ℕ → Bool
is_declared s name = is_inner s (found s name)

abbrev pub bound : InForce → Named → Bool → Bound
bound s n entry = record { name = n.name; node = n.node; place = n.place; depth = depth s; entry = entry }

-- of two declarations of one name in one scope the first counts
abbrev pub declared : Named → Bool → InForce → InForce
declared n entry s = if is_declared s n.name then s else record { opened = s.opened; bounds = s.bounds ++ bound s n entry ∷ [] }

abbrev pub opened : InForce → InForce
opened s = record { opened = s.opened ++ length s.bounds ∷ []; bounds = s.bounds }

abbrev pub last_or : {A : Type 0} → A → List A → A
last_or d [] = d
last_or d (x ∷ []) = x
last_or d (x ∷ y ∷ zs) = last_or d (y ∷ zs)

-- what a scope declared is in force to its end
abbrev pub closed : InForce → InForce
closed s = record { opened = without_last s.opened; bounds = take (last_or (length s.bounds) s.opened) s.bounds }

-- ---- loops that are open

abbrev pub begun : ℕ → Loop
begun depth = record { depth = depth; turning = false; continues = [] }

abbrev pub continued : Place → Loop → Loop
continued place l = record { depth = l.depth; turning = l.turning; continues = place ∷ l.continues }

abbrev pub turned : Loop → Loop
turned l = record { depth = l.depth; turning = true; continues = l.continues }

-- ---- an event

abbrev pub with_scopes : Context → InForce → Context
with_scopes c scopes = record { scopes = scopes; loops = c.loops; within = c.within }

abbrev pub with_loops : Context → List Loop → Context
with_loops c loops = record { scopes = c.scopes; loops = loops; within = c.within }

abbrev pub after : Context → Event → Context
after c event.Opens = with_scopes c (opened c.scopes)
after c event.Closes = with_scopes c (closed c.scopes)
after c (event.Declares n entry) = with_scopes c (declared n entry c.scopes)
after c (event.Enters node) = record { scopes = c.scopes; loops = c.loops; within = node }
after c event.Loops = with_loops c (c.loops ++ begun (depth c.scopes) ∷ [])
after c (event.Continues place) = with_loops c (on_last (continued place) c.loops)
after c event.Turns = with_loops c (on_last turned c.loops)
after c event.LoopEnds = with_loops c (without_last c.loops)
after c _ = c

-- before a text nothing is declared
abbrev pub start : Context
start = record { scopes = record { opened = []; bounds = [] }; loops = []; within = 0 }

-- ---- what a use means

abbrev pub meant_by : Option Bound → Bool → Option Meaning
meant_by (Some b) predeclared = Some (meaning.Declared b.node)
meant_by None true = Some meaning.Predeclared
meant_by None false = None

abbrev pub meant : List (List ℕ) → InForce → ℕ → Option Meaning
meant names s name = meant_by (found s name) (is_predeclared_name names name)

abbrev pub noted : List (List ℕ) → InForce → Event → List (Option Meaning) → List (Option Meaning)
noted names s (event.Uses n called) uses = slice_set uses n.node (meant names s n.name)
noted names s _ uses = uses

-- the meaning of each use, kept under the number of its node
abbrev pub resolved : List (List ℕ) → Context → List Event → List (Option Meaning) → List (Option Meaning)
resolved names c [] uses = uses
resolved names c (e ∷ es) uses = resolved names (after c e) es (noted names c.scopes e uses)

-- ---- what declarations of the module need

abbrev pub linked : ℕ → Option Bound → List (ℕ × ℕ)
linked within None = []
linked within (Some b) = if b.depth == 0 then (within, b.node) ∷ [] else []

-- a use inside a declaration of the module that means another, or the same
abbrev pub link_of : ℕ → InForce → Event → List (ℕ × ℕ)
link_of within s (event.Uses n called) = linked within (found s n.name)
link_of within s _ = []

abbrev pub links : Context → List Event → List (ℕ × ℕ)
links c [] = []
links c (e ∷ es) = link_of c.within c.scopes e ++ links (after c e) es

-- ---- faults of one event

abbrev pub unknown : Bool → Place → List ScopeFault
unknown true place = []
unknown false place = fault.Unknown place ∷ []

abbrev pub called_entry : Bool → Place → List ScopeFault
called_entry true place = fault.EntryCalled place ∷ []
called_entry false place = []

-- a `continue` that stands before a declaration
abbrev pub skipping : Place → Place → List ScopeFault
skipping declared place = if nat_lt place.offset declared.offset then fault.ContinueSkips place ∷ [] else []

-- the `continue`s of a loop that skip a declaration of its body which its continuing part uses
abbrev pub skips : Bound → Loop → List ScopeFault
skips b l = if l.turning && (l.depth == b.depth) then flat_map (skipping b.place) l.continues else []

abbrev pub use_faults : List (List ℕ) → Context → Named → Bool → Option Bound → List ScopeFault
use_faults names c n called None = unknown (is_predeclared_name names n.name) n.place
use_faults names c n called (Some b) = called_entry (called && b.entry) n.place ++ flat_map (skips b) c.loops

abbrev pub faults_of : List (List ℕ) → Context → Event → List ScopeFault
faults_of names c (event.Declares n entry) = if is_declared c.scopes n.name then fault.Twice n.place ∷ [] else []
faults_of names c (event.Uses n called) = use_faults names c n called (found c.scopes n.name)
faults_of names c (event.LacksSeverity place) = fault.BadSeverity place ∷ []
faults_of names c _ = []

-- the faults of all events
abbrev pub told : List (List ℕ) → Context → List Event → List ScopeFault
told names c [] = []
told names c (e ∷ es) = faults_of names c e ++ told names (after c e) es

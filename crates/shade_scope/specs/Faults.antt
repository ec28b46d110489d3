-- The order of faults, and the answer about a tree.
use Rattle.std.specs.Prelude.{ℕ, ◌+◌, ◌*◌, ◌≤◌, List, [], ◌∷◌, Option, None, Some, Bool, false, nat_le, if◌then◌else◌}
use Rattle.shade_scope.specs.declared.fault.ScopeFault.{ScopeFault}
use Rattle.shade_scope.specs.declared.fault.ScopeFault.TheVariants as fault

-- by offset, and at one offset as they are declared
abbrev pub key : ScopeFault → ℕ
key (fault.Unknown place) = 8 * place.offset
key (fault.Twice place) = 8 * place.offset + 1
key (fault.Cycle place) = 8 * place.offset + 2
key (fault.EntryCalled place) = 8 * place.offset + 3
key (fault.ContinueSkips place) = 8 * place.offset + 4
key (fault.BadSeverity place) = 8 * place.offset + 5
key (fault.Conflict place) = 8 * place.offset + 6
key fault.NoMemory = 0

abbrev pub earlier : Option ScopeFault → Option ScopeFault → Option ScopeFault
earlier None b = b
earlier (Some a) None = Some a
earlier (Some a) (Some b) = if nat_le (key a) (key b) then Some a else Some b

-- the first of some faults in their order
abbrev pub least_of : List ScopeFault → Option ScopeFault
least_of [] = None
least_of (f ∷ fs) = earlier (Some f) (least_of fs)

-- the least of what a property holds of, or None where it holds of nothing
abbrev pub IsLeast : (ScopeFault → Type 0) → Option ScopeFault → Type 0
IsLeast Fault None = (f : ScopeFault) → Fault f → ⊥
IsLeast Fault (Some f) = Fault f × ((g : ScopeFault) → Fault g → key f ≤ key g)

abbrev pub is_no_later : Option ScopeFault → ScopeFault → Bool
is_no_later None f = false
is_no_later (Some g) f = nat_le (key g) (key f)

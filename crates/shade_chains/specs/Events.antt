-- The calls of some statements, and the statements at which all lanes meet, each with the number of loops around it.
use Rattle.std.specs.Prelude.{ℕ, ◌+◌, min, List, [], ◌∷◌, ◌++◌, Option, None, Some}
use Rattle.shade_core.specs.Code.{Plain, Barrier, UniformLoad, Code, done, plain, jump, call, branch, switch, loop, no_part, part}
use Rattle.shade_chains.specs.declared.events.Event.{Event}

-- loops from the 255th on are not counted
abbrev pub deeper : ℕ → ℕ
deeper loops = min 255 (loops + 1)

abbrev pub event : ℕ → Option ℕ → Event
event loops callee = record { loops = loops; callee = callee }

abbrev pub plain_events : ℕ → Plain → List Event
plain_events loops (Barrier in_space severity) = event loops None ∷ []
plain_events loops (UniformLoad view severity) = event loops None ∷ []
plain_events loops _ = []

abbrev pub events : ℕ → Code → List Event
events loops done = []
events loops (plain n act rest) = plain_events loops act ++ events loops rest
events loops (jump n act rest) = events loops rest
events loops (call n g args rest) = event loops (Some g) ∷ events loops rest
events loops (branch n cond first second rest) = events loops first ++ events loops second ++ events loops rest
events loops (switch n selector parts rest) = events loops parts ++ events loops rest
events loops (loop n body continuing leave rest) = events (deeper loops) body ++ events (deeper loops) continuing ++ events loops rest
events loops no_part = []
events loops (part n which keys fallback body others) = events loops body ++ events loops others

-- those of a list's first statement and its parts
abbrev pub first_events : ℕ → Code → List Event
first_events loops (plain n act rest) = plain_events loops act
first_events loops (call n g args rest) = event loops (Some g) ∷ []
first_events loops (branch n cond first second rest) = events loops first ++ events loops second
first_events loops (switch n selector parts rest) = events loops parts
first_events loops (loop n body continuing leave rest) = events (deeper loops) body ++ events (deeper loops) continuing
first_events loops _ = []

-- On the way to the proof: what is found of each statement of a list, in structure order.
use Rattle.std.specs.Prelude.{Bool, true, List, [], ◌∷◌, ◌++◌, Option, None}
use Rattle.shade_base.specs.declared.place.Place.{Place}
use Rattle.shade_core.specs.declared.behaviour.Behaviour.{Behaviour}
use Rattle.shade_core.specs.declared.control.ControlFault.{ControlFault}
use Rattle.shade_core.specs.declared.statement.Operand.{Operand}
use Rattle.shade_core.specs.Code.{Code, done, plain, jump, call, branch, switch, loop, no_part, part}
use Rattle.shade_core.specs.Behaviour.{next_only, jump_behaviour, behaviour, branch_behaviour, switch_behaviour, loop_behaviour}
use Rattle.shade_core.specs.Control.{jump_fault, loop_fault}
use Rattle.shade_rules.specs.declared.statements.Told.{Told}
use Rattle.shade_rules.specs.declared.statements.Finding.{Finding}

abbrev pub told : Behaviour → Option ControlFault → Told
told set fault = record { set = set; fault = fault }

abbrev pub told_of : Finding → Told
told_of f = f.told

abbrev pub place_of : Finding → Place
place_of f = f.place

abbrev pub set_of : Finding → Behaviour
set_of f = f.told.set

abbrev pub fault_of : Finding → Option ControlFault
fault_of f = f.told.fault

abbrev pub loop_told : Code → Code → Option Operand → Told
loop_told body continuing leave = told (loop_behaviour body continuing leave) (loop_fault (loop_behaviour body continuing leave) (behaviour continuing))

-- the behaviours and the faults of all statements
abbrev pub findings : Bool → Bool → Code → List Told
findings breaks continues done = []
findings breaks continues (plain n act rest) = told next_only None ∷ findings breaks continues rest
findings breaks continues (jump n act rest) = told (jump_behaviour act) (jump_fault breaks continues act) ∷ findings breaks continues rest
findings breaks continues (call n g args rest) = told next_only None ∷ findings breaks continues rest
findings breaks continues (branch n cond first second rest) =
    told (branch_behaviour first second) None ∷ findings breaks continues first ++ findings breaks continues second ++ findings breaks continues rest
findings breaks continues (switch n selector parts rest) = told (switch_behaviour parts) None ∷ findings true continues parts ++ findings breaks continues rest
findings breaks continues (loop n body continuing leave rest) = loop_told body continuing leave ∷ findings true true body ++ findings true true continuing ++ findings breaks continues rest
findings breaks continues no_part = []
findings breaks continues (part n which keys fallback body others) = findings breaks continues body ++ findings breaks continues others

-- those of a list's first statement
abbrev pub first_told : Bool → Bool → Code → Told
first_told breaks continues (jump n act rest) = told (jump_behaviour act) (jump_fault breaks continues act)
first_told breaks continues (branch n cond first second rest) = told (branch_behaviour first second) None
first_told breaks continues (switch n selector parts rest) = told (switch_behaviour parts) None
first_told breaks continues (loop n body continuing leave rest) = loop_told body continuing leave
first_told breaks continues _ = told next_only None

-- those of the statements of its parts
abbrev pub inside : Bool → Bool → Code → List Told
inside breaks continues (branch n cond first second rest) = findings breaks continues first ++ findings breaks continues second
inside breaks continues (switch n selector parts rest) = findings true continues parts
inside breaks continues (loop n body continuing leave rest) = findings true true body ++ findings true true continuing
inside breaks continues _ = []

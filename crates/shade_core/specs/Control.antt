-- Faults of behaviour. (WGSL, "Statement Behavior Analysis".)
use Rattle.std.specs.Prelude.{◌≡◌, Bool, true, false, ◌||◌, not, if◌then◌else◌, List, [], ◌∷◌, ◌++◌, All, Option, None, Some, IsSome}
use Rattle.shade_core.specs.declared.module.CoreFunction.{CoreFunction}
use Rattle.shade_core.specs.declared.control.ControlFault.{ControlFault}
use Rattle.shade_core.specs.declared.control.ControlFault.TheVariants.{Empty, Escapes, ContinuingLeaves}
use Rattle.shade_core.specs.declared.behaviour.Behaviour.{Behaviour}
use Rattle.shade_core.specs.Code.{Jump, Break, Continue, Return, Code, done, plain, jump, call, branch, switch, loop, no_part, part, code_of}
use Rattle.shade_core.specs.Behaviour.{behaviour, loop_behaviour}

-- some way but Next
abbrev pub leaves : Behaviour → Bool
leaves b = b.breaks || (b.continues || b.returns)

-- no way at all
abbrev pub is_empty : Behaviour → Bool
is_empty b = not (b.next || leaves b)

-- of a Break and a Continue, by whether a loop or a switch stands around it, and whether a loop does
abbrev pub jump_fault : Bool → Bool → Jump → Option ControlFault
jump_fault breaks continues Break = if breaks then None else Some Escapes
jump_fault breaks continues Continue = if continues then None else Some Escapes
jump_fault breaks continues (Return value) = None

-- of a loop, by its own behaviour and that of its continuing part
abbrev pub loop_fault : Behaviour → Behaviour → Option ControlFault
loop_fault whole continuing = if is_empty whole then Some Empty else if leaves continuing then Some ContinuingLeaves else None

-- The fault of each statement of a list, in structure order, by whether a loop or a switch stands around the list, and whether a loop does. A
-- Break must have something to leave and a Continue a loop; control must go on somewhere from a loop, and leave its continuing part at its end.
abbrev pub faults : Bool → Bool → Code → List (Option ControlFault)
faults breaks continues done = []
faults breaks continues (plain n act rest) = None ∷ faults breaks continues rest
faults breaks continues (jump n act rest) = jump_fault breaks continues act ∷ faults breaks continues rest
faults breaks continues (call n g args rest) = None ∷ faults breaks continues rest
faults breaks continues (branch n cond first second rest) = None ∷ faults breaks continues first ++ faults breaks continues second ++ faults breaks continues rest
faults breaks continues (switch n selector parts rest) = None ∷ faults true continues parts ++ faults breaks continues rest
faults breaks continues (loop n body continuing leave rest) =
    loop_fault (loop_behaviour body continuing leave) (behaviour continuing) ∷ faults true true body ++ faults true true continuing ++ faults breaks continues rest
faults breaks continues no_part = []
faults breaks continues (part n which keys fallback body others) = faults breaks continues body ++ faults breaks continues others

-- those of the statements of a function
abbrev pub body_faults : CoreFunction → List (Option ControlFault)
body_faults function = faults false false (code_of function.body)

-- A function without a fault of behaviour; control does not come to the end of one that gives a result.
pub record HasNoBehaviourFault (function : CoreFunction) : Type 0 where
  pub control : All (λ fault. fault ≡ None) (body_faults function)
  pub returns : IsSome function.result → (behaviour (code_of function.body)).next ≡ false

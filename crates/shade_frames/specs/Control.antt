-- Rules: where a lane stands in the statements of its functions, and how control goes on. What a lane holds enters by one number alone:
-- the value of a condition, of a selector or of what leaves a loop. (WGSL, "Control Flow" and "Function Calls".)
--
-- A step does one statement: each one without parts, the choice of a part of an If or a Switch, the entry into a Loop, a Call, and the end of
-- each turn of a Loop. To come to the end of a list or of a part, or from a loop's body to its continuing part, is no step: `next` makes such
-- moves, and so they belong to the step before.
use Rattle.std.specs.Prelude.{ℕ, ◌+◌, ◌%◌, ◌^◌, ℤ, Bool, true, false, not, List, Option, None, Some}
use Rattle.std.specs.List.{list_any}
use Rattle.std.specs.Ordering.{int_eq}
use Rattle.shade_values.specs.Operations.{is_zero}
use Rattle.shade_core.specs.declared.statement.Argument.{Argument}
use Rattle.shade_core.specs.declared.statement.Operand.{Operand}
use Rattle.shade_core.specs.Code.{Jump, Break, Continue, Return, Code, done, plain, jump, call, branch, switch, loop, no_part, part}

-- a loop that is open
pub record OpenLoop : Type 0 where
  pub number : ℕ
  pub body : Code
  pub continuing : Code
  pub leave : Option Operand

-- What a lane has left, the innermost first: lists of statements, the parts of switches and loops around them, each loop with the count of
-- its turn, and the calls that are open, each with its number, the function called and what was handed over.
pub data Rest : Type 0 where
  halt : Rest
  seq : Code → Rest → Rest
  in_body : OpenLoop → (turn : ℕ) → Rest → Rest
  in_continuing : OpenLoop → (turn : ℕ) → Rest → Rest
  in_switch : Rest → Rest
  back : (number function : ℕ) (args : List Argument) → Rest → Rest

-- Where a lane stands: past its entry, before the first statement of a list, at the end of a turn, or past the last statement of a function
-- that was called. A lane stays at the last of these for ever; no module without a fault of behaviour has such a function.
pub data Place : Type 0 where
  Over : Place
  First : Code → Rest → Place
  Turning : OpenLoop → (turn : ℕ) → Rest → Place
  Falling : (number function : ℕ) (args : List Argument) → Rest → Place

-- ---- moves that take no step

-- before the first statement of a list, or where one stands that has done the list
abbrev pub next_code : Code → Rest → Place → Place
next_code done k later = later
next_code (plain n act rest) k later = First (plain n act rest) k
next_code (jump n act rest) k later = First (jump n act rest) k
next_code (call n g args rest) k later = First (call n g args rest) k
next_code (branch n cond first second rest) k later = First (branch n cond first second rest) k
next_code (switch n selector parts rest) k later = First (switch n selector parts rest) k
next_code (loop n body continuing leave rest) k later = First (loop n body continuing leave rest) k
next_code no_part k later = later
next_code (part n which keys fallback body others) k later = later

-- where a lane stands that has this left
abbrev pub next : Rest → Place
next halt = Over
next (seq c k) = next_code c k (next k)
next (in_body m turn k) = next_code m.continuing (in_continuing m turn k) (Turning m turn k)
next (in_continuing m turn k) = Turning m turn k
next (in_switch k) = next k
next (back n g args k) = Falling n g args k

-- ---- jumps

-- past the nearest loop or switch
abbrev pub break_to : Rest → Rest
break_to halt = halt
break_to (seq c k) = break_to k
break_to (in_body m turn k) = k
break_to (in_continuing m turn k) = k
break_to (in_switch k) = k
break_to (back n g args k) = back n g args k

-- to the continuing part of the nearest loop
abbrev pub continue_to : Rest → Rest
continue_to halt = halt
continue_to (seq c k) = continue_to k
continue_to (in_body m turn k) = in_body m turn k
continue_to (in_continuing m turn k) = in_continuing m turn k
continue_to (in_switch k) = continue_to k
continue_to (back n g args k) = back n g args k

-- past the call of the function; past everything where it is the entry
abbrev pub return_to : Rest → Rest
return_to halt = halt
return_to (seq c k) = return_to k
return_to (in_body m turn k) = return_to k
return_to (in_continuing m turn k) = return_to k
return_to (in_switch k) = return_to k
return_to (back n g args k) = k

abbrev pub jumped : Jump → Rest → Rest
jumped Break k = break_to k
jumped Continue k = continue_to k
jumped (Return value) k = return_to k

-- ---- choices

-- a condition holds where its number is not 0
abbrev pub holds : ℤ → Bool
holds number = not (is_zero number)

abbrev pub chosen : Bool → Code → Code → Code
chosen true first second = first
chosen false first second = second

abbrev pub keyed_by : Bool → Code → Option Code → Option Code
keyed_by true body others = Some body
keyed_by false body others = others

-- the part of a switch that has this key
abbrev pub keyed : ℤ → Code → Option Code
keyed key (part n which keys fallback body others) = keyed_by (list_any (int_eq key) keys) body (keyed key others)
keyed key _ = None

-- the part of a switch that is taken where no key fits
abbrev pub fallback_of : Code → Code
fallback_of (part n which keys fallback body others) = chosen fallback body (fallback_of others)
fallback_of _ = done

abbrev pub found_or : Option Code → Code → Code
found_or None other = other
found_or (Some c) other = c

-- the part of a switch that a selector takes
abbrev pub selected : ℤ → Code → Code
selected key parts = found_or (keyed key parts) (fallback_of parts)

-- the count of the turn after this one
abbrev pub next_turn : ℕ → ℕ
next_turn turn = (turn + 1) % 2 ^ 32

abbrev pub turned : Bool → OpenLoop → ℕ → Rest → Rest
turned true m turn k = k
turned false m turn k = seq m.body (in_body m (next_turn turn) k)

-- ---- the control of a step

abbrev pub go_code : (bodies : ℕ → Code) → ℤ → Code → Rest → Rest
go_code bodies number done k = k
go_code bodies number (plain n act rest) k = seq rest k
go_code bodies number (jump n act rest) k = jumped act k
go_code bodies number (call n g args rest) k = seq (bodies g) (back n g args (seq rest k))
go_code bodies number (branch n cond first second rest) k = seq (chosen (holds number) first second) (seq rest k)
go_code bodies number (switch n selector parts rest) k = seq (selected number parts) (in_switch (seq rest k))
go_code bodies number (loop n body continuing leave rest) k =
    seq body (in_body (record { number = n; body = body; continuing = continuing; leave = leave }) 0 (seq rest k))
go_code bodies number no_part k = k
go_code bodies number (part n which keys fallback body others) k = k

-- what is left after a step that found this number, by the statements of each function
abbrev pub go : (bodies : ℕ → Code) → ℤ → Place → Rest
go bodies number Over = halt
go bodies number (First c k) = go_code bodies number c k
go bodies number (Turning m turn k) = turned (holds number) m turn k
go bodies number (Falling n g args k) = back n g args k

abbrev pub code_asks : Code → Option Operand
code_asks (branch n cond first second rest) = Some cond
code_asks (switch n selector parts rest) = Some selector
code_asks _ = None

-- whose number a step asks for
abbrev pub asks : Place → Option Operand
asks Over = None
asks (First c k) = code_asks c
asks (Turning m turn k) = m.leave
asks (Falling n g args k) = None

abbrev pub is_over : Place → Bool
is_over Over = true
is_over (First c k) = false
is_over (Turning m turn k) = false
is_over (Falling n g args k) = false

-- the number of the call that the function answers; none where it is the entry
abbrev pub caller_of : Rest → Option ℕ
caller_of halt = None
caller_of (seq c k) = caller_of k
caller_of (in_body m turn k) = caller_of k
caller_of (in_continuing m turn k) = caller_of k
caller_of (in_switch k) = caller_of k
caller_of (back n g args k) = Some n

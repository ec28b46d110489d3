-- How control may go on after statements. (WGSL, "Statement Behavior Analysis".)
use Rattle.std.specs.Prelude.{ℕ, Bool, true, false, ◌&&◌, ◌||◌, not, List, [], ◌∷◌, ◌++◌, Option, None, Some, is_some, slice_get}
use Rattle.shade_core.specs.declared.behaviour.Behaviour.{Behaviour}
use Rattle.shade_core.specs.declared.module.CoreFunction.{CoreFunction}
use Rattle.shade_core.specs.declared.module.Site.{Site}
use Rattle.shade_core.specs.declared.statement.Operand.{Operand}
use Rattle.shade_core.specs.Code.{Jump, Break, Continue, Return, Code, done, plain, jump, call, branch, switch, loop, no_part, part, code_of}

abbrev pub set_of : Bool → Bool → Bool → Bool → Behaviour
set_of n b c r = record { next = n; breaks = b; continues = c; returns = r }

-- Next alone
abbrev pub next_only : Behaviour
next_only = set_of true false false false

-- no way at all
abbrev pub no_way : Behaviour
no_way = set_of false false false false

-- the union of two sets
abbrev pub joined : Behaviour → Behaviour → Behaviour
joined a b = set_of (a.next || b.next) (a.breaks || b.breaks) (a.continues || b.continues) (a.returns || b.returns)

abbrev pub in_turn_by : Bool → Behaviour → Behaviour → Behaviour
in_turn_by false a b = a
in_turn_by true a b = set_of b.next (a.breaks || b.breaks) (a.continues || b.continues) (a.returns || b.returns)

-- one after the other: the first where it lacks Next, else the first without Next joined with the second
abbrev pub in_turn : Behaviour → Behaviour → Behaviour
in_turn a b = in_turn_by a.next a b

abbrev pub jump_behaviour : Jump → Behaviour
jump_behaviour Break = set_of false true false false
jump_behaviour Continue = set_of false false true false
jump_behaviour (Return value) = set_of false false false true

-- of a switch, by the union of its parts: Break becomes Next
abbrev pub after_switch : Behaviour → Behaviour
after_switch b = set_of (b.next || b.breaks) false b.continues b.returns

-- Of a loop, by the union of its body and continuing part and by whether it has a leave operand: Next exactly where it can be
-- left by Break or by its leave operand, and never Break or Continue.
abbrev pub after_loop : Behaviour → Bool → Behaviour
after_loop b may_leave = set_of (b.breaks || may_leave) false false b.returns

-- of a list of statements; of parts of a switch, their union
abbrev pub behaviour : Code → Behaviour
behaviour done = next_only
behaviour (plain n act rest) = behaviour rest
behaviour (jump n act rest) = jump_behaviour act
behaviour (call n g args rest) = behaviour rest
behaviour (branch n cond first second rest) = in_turn (joined (behaviour first) (behaviour second)) (behaviour rest)
behaviour (switch n selector parts rest) = in_turn (after_switch (behaviour parts)) (behaviour rest)
behaviour (loop n body continuing leave rest) = in_turn (after_loop (joined (behaviour body) (behaviour continuing)) (is_some leave)) (behaviour rest)
behaviour no_part = no_way
behaviour (part n which keys fallback body others) = joined (behaviour body) (behaviour others)

-- of an If, of a Switch and of a Loop, whatever follows
abbrev pub branch_behaviour : Code → Code → Behaviour
branch_behaviour first second = joined (behaviour first) (behaviour second)

abbrev pub switch_behaviour : Code → Behaviour
switch_behaviour parts = after_switch (behaviour parts)

abbrev pub loop_behaviour : Code → Code → Option Operand → Behaviour
loop_behaviour body continuing leave = after_loop (joined (behaviour body) (behaviour continuing)) (is_some leave)

-- exactly Next
abbrev pub goes_on : Behaviour → Bool
goes_on b = b.next && not (b.breaks || (b.continues || b.returns))

-- ---- the behaviours of all statements

-- of a list, in structure order
abbrev pub behaviours : Code → List Behaviour
behaviours done = []
behaviours (plain n act rest) = next_only ∷ behaviours rest
behaviours (jump n act rest) = jump_behaviour act ∷ behaviours rest
behaviours (call n g args rest) = next_only ∷ behaviours rest
behaviours (branch n cond first second rest) = branch_behaviour first second ∷ behaviours first ++ behaviours second ++ behaviours rest
behaviours (switch n selector parts rest) = switch_behaviour parts ∷ behaviours parts ++ behaviours rest
behaviours (loop n body continuing leave rest) = loop_behaviour body continuing leave ∷ behaviours body ++ behaviours continuing ++ behaviours rest
behaviours no_part = []
behaviours (part n which keys fallback body others) = behaviours body ++ behaviours others

-- of a function
abbrev pub body_behaviours : CoreFunction → List Behaviour
body_behaviours function = behaviours (code_of function.body)

abbrev pub row_at : Option (List Behaviour) → ℕ → Option Behaviour
row_at None number = None
row_at (Some row) number = slice_get row number

-- that of a statement, in lists by function
abbrev pub behaviour_at : List (List Behaviour) → Site → Option Behaviour
behaviour_at functions site = row_at (slice_get functions site.function) site.statement

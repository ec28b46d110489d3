-- Where the analysed statements of a function stand, and where control comes to them from. (This project's rules, after WGSL, "Uniformity
-- analysis"; how control goes on is WGSL, "Statement Behavior Analysis".)
use Rattle.std.specs.Prelude.{◌≡◌, ℕ, ℤ, Bool, true, Option, List}
use Rattle.shade_core.specs.declared.behaviour.Behaviour.{Behaviour}
use Rattle.shade_core.specs.declared.statement.Operand.{Operand}
use Rattle.shade_core.specs.declared.statement.Argument.{Argument}
use Rattle.shade_core.specs.Code.{Plain, Jump, Code, done, plain, jump, call, branch, switch, loop, no_part, part}
use Rattle.shade_core.specs.Behaviour.{next_only, no_way, jump_behaviour, branch_behaviour, switch_behaviour, loop_behaviour}
use Rattle.shade_graph.specs.declared.node.Node.{Node}
use Rattle.shade_graph.specs.declared.node.Node.TheVariants.{After, Part}

-- a list that begins with the statement with a number, and what follows this statement in the list
pub data Starts : Code → ℕ → Code → Type 0 where
  plain_starts : {n : ℕ} {act : Plain} {rest : Code} → Starts (plain n act rest) n rest
  jump_starts : {n : ℕ} {act : Jump} {rest : Code} → Starts (jump n act rest) n rest
  call_starts : {n g : ℕ} {args : List Argument} {rest : Code} → Starts (call n g args rest) n rest
  branch_starts : {n : ℕ} {cond : Operand} {one two rest : Code} → Starts (branch n cond one two rest) n rest
  switch_starts : {n : ℕ} {selector : Operand} {parts rest : Code} → Starts (switch n selector parts rest) n rest
  loop_starts : {n : ℕ} {body continuing : Code} {leave : Option Operand} {rest : Code} → Starts (loop n body continuing leave rest) n rest

-- how control may go on behind the statement that a list begins with
abbrev pub first_ways : Code → Behaviour
first_ways (plain n act rest) = next_only
first_ways (jump n act rest) = jump_behaviour act
first_ways (call n g args rest) = next_only
first_ways (branch n cond one two rest) = branch_behaviour one two
first_ways (switch n selector parts rest) = switch_behaviour parts
first_ways (loop n body continuing leave rest) = loop_behaviour body continuing leave
first_ways done = no_way
first_ways no_part = no_way
first_ways (part n which keys fallback body others) = no_way

-- a part of a switch: the number of its switch and its own, and its statements
pub data IsCase : Code → ℕ → ℕ → Code → Type 0 where
  this_case : {n which : ℕ} {keys : List ℤ} {fallback : Bool} {body others : Code} → IsCase (part n which keys fallback body others) n which body
  other_case : {n which m p : ℕ} {keys : List ℤ} {fallback : Bool} {body others found : Code} → IsCase others m p found → IsCase (part n which keys fallback body others) m p found

-- A part of the statement that a list begins with: the number of the statement and its own, and its statements. An If has its first part and
-- its second one, a Switch its parts in order, a Loop its body and its continuing part.
pub data HasPart : Code → ℕ → ℕ → Code → Type 0 where
  first_part : {n : ℕ} {cond : Operand} {one two rest : Code} → HasPart (branch n cond one two rest) n 0 one
  second_part : {n : ℕ} {cond : Operand} {one two rest : Code} → HasPart (branch n cond one two rest) n 1 two
  switch_part : {n m p : ℕ} {selector : Operand} {parts rest found : Code} → IsCase parts m p found → HasPart (switch n selector parts rest) m p found
  body_part : {n : ℕ} {body continuing : Code} {leave : Option Operand} {rest : Code} → HasPart (loop n body continuing leave rest) n 0 body
  continuing_part : {n : ℕ} {body continuing : Code} {leave : Option Operand} {rest : Code} → HasPart (loop n body continuing leave rest) n 1 continuing

-- The analysed statements of a list that begins under a node: each by the rest of its own list from it on, and by the node from which
-- control comes to it. A list is analysed up to and including its first statement behind which control does not go on to the next, and
-- of an analysed statement each part is analysed. Control comes to the first statement of a part from the part, and to each other one
-- from behind the statement before it.
pub data Analysed : Node → Code → Node → Code → Type 0 where
  this : {a : Node} {c rest : Code} {n : ℕ} → Starts c n rest → Analysed a c a c
  behind : {a b : Node} {c rest found : Code} {n : ℕ} → Starts c n rest → (first_ways c).next ≡ true → Analysed (After n) rest b found → Analysed a c b found
  within : {a b : Node} {c body found : Code} {n p : ℕ} → HasPart c n p body → Analysed (Part n p) body b found → Analysed a c b found

-- The definitions that reach, with each exit of a statement by Next, Break, Continue or Return as a point of its own.
use Rattle.std.specs.Prelude.{◌≡◌, ℕ, ℤ, Bool, false, Option, Some, List}
use Rattle.shade_core.specs.declared.statement.Operand.{Operand}
use Rattle.shade_core.specs.declared.statement.Base.{Base}
use Rattle.shade_core.specs.declared.statement.Base.TheVariants.{Pointee}
use Rattle.shade_core.specs.declared.statement.Argument.{Argument}
use Rattle.shade_core.specs.Code.{Plain, Jump, Break, Continue, Return, Code, done, plain, jump, call, branch, switch, loop, no_part, part}
use Rattle.shade_flow.specs.declared.definition.Definition.{Definition}
use Rattle.shade_flow.specs.declared.definition.Definition.TheVariants as definition
use Rattle.shade_flow.specs.declared.point.Point.{Point}
use Rattle.shade_flow.specs.declared.point.Point.TheVariants.{At, Turn, Past}
use Rattle.shade_flow.specs.Flow.{Mark, Nothing, Hands, mark_of, HasPart, Makes, stops}

-- how control goes on behind a statement (WGSL, "Statement Behavior Analysis")
pub data Way : Type 0 where
  ByNext : Way
  ByBreak : Way
  ByContinue : Way
  ByReturn : Way

-- the place before a statement, the end of a turn or past the function; or an exit of the statement with a number
pub data Place : Type 0 where
  Stands : Point → Place
  Exit : ℕ → Way → Place

-- where a list begins that is left by Next to a place
abbrev pub begin : Code → Place → Place
begin done next = next
begin (plain n act rest) next = Stands (At n)
begin (jump n act rest) next = Stands (At n)
begin (call n g args rest) next = Stands (At n)
begin (branch n cond one two rest) next = Stands (At n)
begin (switch n selector parts rest) next = Stands (At n)
begin (loop n body continuing leave rest) next = Stands (At n)
begin no_part next = next
begin (part n which keys fallback body others) next = next

-- where each way out of a list leads
pub record Out : Type 0 where
  pub next : Place
  pub breaks : Place
  pub continues : Place
  pub returns : Place

abbrev pub leads : Out → Way → Place
leads out ByNext = out.next
leads out ByBreak = out.breaks
leads out ByContinue = out.continues
leads out ByReturn = out.returns

-- out of a statement that a list follows: by Next to that list, else out of both
abbrev pub behind : Code → Out → Out
behind rest out = record { next = begin rest out.next; breaks = out.breaks; continues = out.continues; returns = out.returns }

-- out of a part of an If: the same exit of the If
abbrev pub branch_exits : ℕ → Out
branch_exits n = record { next = Exit n ByNext; breaks = Exit n ByBreak; continues = Exit n ByContinue; returns = Exit n ByReturn }

-- out of a part of a Switch: a Break leaves it by Next
abbrev pub switch_exits : ℕ → Out
switch_exits n = record { next = Exit n ByNext; breaks = Exit n ByNext; continues = Exit n ByContinue; returns = Exit n ByReturn }

-- out of the body of a Loop: on to the continuing part by Next and Continue, and behind the Loop by Break
abbrev pub body_exits : ℕ → Code → Out
body_exits n continuing = record { next = begin continuing (Stands (Turn n)); breaks = Exit n ByNext; continues = begin continuing (Stands (Turn n)); returns = Exit n ByReturn }

-- out of its continuing part: to the end of the turn
abbrev pub continuing_exits : ℕ → Out
continuing_exits n = record { next = Stands (Turn n); breaks = Exit n ByNext; continues = Stands (Turn n); returns = Exit n ByReturn }

-- out of a function: past it
abbrev pub function_exits : Out
function_exits = record { next = Stands Past; breaks = Stands Past; continues = Stands Past; returns = Stands Past }

abbrev pub way_of : Jump → Way
way_of Break = ByBreak
way_of Continue = ByContinue
way_of (Return value) = ByReturn

-- The places of a list that are joined, one to the next, and what is done to variables between them. A statement without parts is
-- passed between the place before it and its exit, and each exit leads where the structure of the function has it.
pub data Joined : Out → Code → Place → Mark → Place → Type 0 where
  plain_passes : {out : Out} {n : ℕ} {act : Plain} {rest : Code} → Joined out (plain n act rest) (Stands (At n)) (mark_of n act) (Exit n ByNext)
  plain_leads : {out : Out} {n : ℕ} {act : Plain} {rest : Code} (way : Way) → Joined out (plain n act rest) (Exit n way) Nothing (leads (behind rest out) way)
  plain_rest : {out : Out} {n : ℕ} {act : Plain} {rest : Code} {u v : Place} {m : Mark} → Joined out rest u m v → Joined out (plain n act rest) u m v
  jump_passes : {out : Out} {n : ℕ} {act : Jump} {rest : Code} → Joined out (jump n act rest) (Stands (At n)) Nothing (Exit n (way_of act))
  jump_leads : {out : Out} {n : ℕ} {act : Jump} {rest : Code} (way : Way) → Joined out (jump n act rest) (Exit n way) Nothing (leads (behind rest out) way)
  jump_rest : {out : Out} {n : ℕ} {act : Jump} {rest : Code} {u v : Place} {m : Mark} → Joined out rest u m v → Joined out (jump n act rest) u m v
  call_passes : {out : Out} {n g : ℕ} {args : List Argument} {rest : Code} → Joined out (call n g args rest) (Stands (At n)) (Hands n args) (Exit n ByNext)
  call_leads : {out : Out} {n g : ℕ} {args : List Argument} {rest : Code} (way : Way) → Joined out (call n g args rest) (Exit n way) Nothing (leads (behind rest out) way)
  call_rest : {out : Out} {n g : ℕ} {args : List Argument} {rest : Code} {u v : Place} {m : Mark} → Joined out rest u m v → Joined out (call n g args rest) u m v
  branch_one : {out : Out} {n : ℕ} {cond : Operand} {one two rest : Code} → Joined out (branch n cond one two rest) (Stands (At n)) Nothing (begin one (Exit n ByNext))
  branch_two : {out : Out} {n : ℕ} {cond : Operand} {one two rest : Code} → Joined out (branch n cond one two rest) (Stands (At n)) Nothing (begin two (Exit n ByNext))
  branch_in_one : {out : Out} {n : ℕ} {cond : Operand} {one two rest : Code} {u v : Place} {m : Mark} → Joined (branch_exits n) one u m v → Joined out (branch n cond one two rest) u m v
  branch_in_two : {out : Out} {n : ℕ} {cond : Operand} {one two rest : Code} {u v : Place} {m : Mark} → Joined (branch_exits n) two u m v → Joined out (branch n cond one two rest) u m v
  branch_leads : {out : Out} {n : ℕ} {cond : Operand} {one two rest : Code} (way : Way) → Joined out (branch n cond one two rest) (Exit n way) Nothing (leads (behind rest out) way)
  branch_rest : {out : Out} {n : ℕ} {cond : Operand} {one two rest : Code} {u v : Place} {m : Mark} → Joined out rest u m v → Joined out (branch n cond one two rest) u m v
  switch_begin : {out : Out} {n : ℕ} {selector : Operand} {parts rest body : Code} → HasPart parts body → Joined out (switch n selector parts rest) (Stands (At n)) Nothing (begin body (Exit n ByNext))
  switch_in_parts : {out : Out} {n : ℕ} {selector : Operand} {parts rest : Code} {u v : Place} {m : Mark} → Joined (switch_exits n) parts u m v → Joined out (switch n selector parts rest) u m v
  switch_leads : {out : Out} {n : ℕ} {selector : Operand} {parts rest : Code} (way : Way) → Joined out (switch n selector parts rest) (Exit n way) Nothing (leads (behind rest out) way)
  switch_rest : {out : Out} {n : ℕ} {selector : Operand} {parts rest : Code} {u v : Place} {m : Mark} → Joined out rest u m v → Joined out (switch n selector parts rest) u m v
  part_in_body : {out : Out} {n which : ℕ} {keys : List ℤ} {fallback : Bool} {body others : Code} {u v : Place} {m : Mark} → Joined out body u m v → Joined out (part n which keys fallback body others) u m v
  part_others : {out : Out} {n which : ℕ} {keys : List ℤ} {fallback : Bool} {body others : Code} {u v : Place} {m : Mark} → Joined out others u m v → Joined out (part n which keys fallback body others) u m v
  loop_begin : {out : Out} {n : ℕ} {body continuing rest : Code} {leave : Option Operand} → Joined out (loop n body continuing leave rest) (Stands (At n)) Nothing (begin body (begin continuing (Stands (Turn n))))
  loop_turn : {out : Out} {n : ℕ} {body continuing rest : Code} {leave : Option Operand} → Joined out (loop n body continuing leave rest) (Stands (Turn n)) Nothing (begin body (begin continuing (Stands (Turn n))))
  loop_leave : {out : Out} {n : ℕ} {body continuing rest : Code} {operand : Operand} → Joined out (loop n body continuing (Some operand) rest) (Stands (Turn n)) Nothing (Exit n ByNext)
  loop_in_body : {out : Out} {n : ℕ} {body continuing rest : Code} {leave : Option Operand} {u v : Place} {m : Mark} → Joined (body_exits n continuing) body u m v → Joined out (loop n body continuing leave rest) u m v
  loop_in_continuing : {out : Out} {n : ℕ} {body continuing rest : Code} {leave : Option Operand} {u v : Place} {m : Mark} → Joined (continuing_exits n) continuing u m v → Joined out (loop n body continuing leave rest) u m v
  loop_leads : {out : Out} {n : ℕ} {body continuing rest : Code} {leave : Option Operand} (way : Way) → Joined out (loop n body continuing leave rest) (Exit n way) Nothing (leads (behind rest out) way)
  loop_rest : {out : Out} {n : ℕ} {body continuing rest : Code} {leave : Option Operand} {u v : Place} {m : Mark} → Joined out rest u m v → Joined out (loop n body continuing leave rest) u m v

-- A definition of a variable reaches a place: a walk over joined places leads there from the exit by Next of the statement that makes it
-- (from the function's beginning, for what a pointee holds then), and nothing on the walk stops it.
pub data ReachesByExits (body : Code) (variable : Base) (by : Definition) : Place → Type 0 where
  entered : {i : ℕ} → variable ≡ Pointee i → by ≡ definition.Entry i → ReachesByExits body variable by (begin body (Stands Past))
  made_by : {u v : Place} {m : Mark} → Joined function_exits body u m v → Makes m variable by → ReachesByExits body variable by v
  goes_by : {u v : Place} {m : Mark} → ReachesByExits body variable by u → Joined function_exits body u m v → stops m variable ≡ false → ReachesByExits body variable by v

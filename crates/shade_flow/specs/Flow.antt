-- The ways of control over points, and the definitions that reach a point.
use Rattle.std.specs.Prelude.{◌≡◌, ℕ, ℤ, Bool, true, false, ◌&&◌, ◌||◌, nat_eq, slice_get, Option, Some, List, [], ◌∷◌}
use Rattle.shade_core.specs.declared.statement.Operand.{Operand}
use Rattle.shade_core.specs.declared.statement.Base.{Base}
use Rattle.shade_core.specs.declared.statement.Base.TheVariants.{Local, Module, Pointee}
use Rattle.shade_core.specs.declared.statement.ViewStep.{ViewStep}
use Rattle.shade_core.specs.declared.statement.Argument.{Argument}
use Rattle.shade_core.specs.declared.statement.Argument.TheVariants as argument
use Rattle.shade_core.specs.Code.{Plain, Set, Load, Declare, Store, Atomic, Barrier, UniformLoad, Length, Jump, Break, Continue, Return, Code, done, plain, jump, call, branch, switch, loop, no_part, part}
use Rattle.shade_flow.specs.declared.definition.Definition.{Definition}
use Rattle.shade_flow.specs.declared.definition.Definition.TheVariants as definition
use Rattle.shade_flow.specs.declared.point.Point.{Point}
use Rattle.shade_flow.specs.declared.point.Point.TheVariants.{At, Turn, Past}

-- where a list begins that goes on to a point
abbrev pub entry : Code → Point → Point
entry done next = next
entry (plain n act rest) next = At n
entry (jump n act rest) next = At n
entry (call n g args rest) next = At n
entry (branch n cond one two rest) next = At n
entry (switch n selector parts rest) next = At n
entry (loop n body continuing leave rest) next = At n
entry no_part next = next
entry (part n which keys fallback body others) next = next

-- What a statement does to variables on the way to the next point: a Declare or a Store with the steps from the variable to the
-- part that it writes, or a call with what it hands over.
pub data Mark : Type 0 where
  Nothing : Mark
  Stores : (statement : ℕ) (variable : Base) (steps : List ViewStep) → Mark
  Hands : (statement : ℕ) (args : List Argument) → Mark

abbrev pub mark_of : ℕ → Plain → Mark
mark_of n (Set op args) = Nothing
mark_of n (Load view) = Nothing
mark_of n (Declare local value) = Stores n (Local local) []
mark_of n (Store view value) = Stores n view.base view.steps
mark_of n (Atomic op view args) = Nothing
mark_of n (Barrier space severity) = Nothing
mark_of n (UniformLoad view severity) = Nothing
mark_of n (Length view) = Nothing

abbrev pub jump_to : Point → Point → Jump → Point
jump_to break continue Break = break
jump_to break continue Continue = continue
jump_to break continue (Return value) = Past

-- the body of one of the parts of a switch
pub data HasPart : Code → Code → Type 0 where
  has_first : {n which : ℕ} {keys : List ℤ} {fallback : Bool} {body others : Code} → HasPart (part n which keys fallback body others) body
  has_other : {n which : ℕ} {keys : List ℤ} {fallback : Bool} {body others some : Code} → HasPart others some → HasPart (part n which keys fallback body others) some

-- The ways of a list that goes on to `next`, breaks to `break` and continues to `continue`, each from a point to a point: those of
-- its statements and of the parts in them. A switch goes on to each of its parts, and past none of them.
pub data Flow : Point → Point → Point → Code → Point → Mark → Point → Type 0 where
  plain_step : {next break continue : Point} {n : ℕ} {act : Plain} {rest : Code} → Flow next break continue (plain n act rest) (At n) (mark_of n act) (entry rest next)
  plain_rest : {next break continue : Point} {n : ℕ} {act : Plain} {rest : Code} {u v : Point} {m : Mark} → Flow next break continue rest u m v → Flow next break continue (plain n act rest) u m v
  jump_step : {next break continue : Point} {n : ℕ} {act : Jump} {rest : Code} → Flow next break continue (jump n act rest) (At n) Nothing (jump_to break continue act)
  jump_rest : {next break continue : Point} {n : ℕ} {act : Jump} {rest : Code} {u v : Point} {m : Mark} → Flow next break continue rest u m v → Flow next break continue (jump n act rest) u m v
  call_step : {next break continue : Point} {n g : ℕ} {args : List Argument} {rest : Code} → Flow next break continue (call n g args rest) (At n) (Hands n args) (entry rest next)
  call_rest : {next break continue : Point} {n g : ℕ} {args : List Argument} {rest : Code} {u v : Point} {m : Mark} → Flow next break continue rest u m v → Flow next break continue (call n g args rest) u m v
  branch_one : {next break continue : Point} {n : ℕ} {cond : Operand} {one two rest : Code} → Flow next break continue (branch n cond one two rest) (At n) Nothing (entry one (entry rest next))
  branch_two : {next break continue : Point} {n : ℕ} {cond : Operand} {one two rest : Code} → Flow next break continue (branch n cond one two rest) (At n) Nothing (entry two (entry rest next))
  branch_in_one : {next break continue : Point} {n : ℕ} {cond : Operand} {one two rest : Code} {u v : Point} {m : Mark} → Flow (entry rest next) break continue one u m v → Flow next break continue (branch n cond one two rest) u m v
  branch_in_two : {next break continue : Point} {n : ℕ} {cond : Operand} {one two rest : Code} {u v : Point} {m : Mark} → Flow (entry rest next) break continue two u m v → Flow next break continue (branch n cond one two rest) u m v
  branch_rest : {next break continue : Point} {n : ℕ} {cond : Operand} {one two rest : Code} {u v : Point} {m : Mark} → Flow next break continue rest u m v → Flow next break continue (branch n cond one two rest) u m v
  switch_begin : {next break continue : Point} {n : ℕ} {selector : Operand} {parts rest body : Code} → HasPart parts body → Flow next break continue (switch n selector parts rest) (At n) Nothing (entry body (entry rest next))
  switch_in_parts : {next break continue : Point} {n : ℕ} {selector : Operand} {parts rest : Code} {u v : Point} {m : Mark} → Flow (entry rest next) (entry rest next) continue parts u m v → Flow next break continue (switch n selector parts rest) u m v
  switch_rest : {next break continue : Point} {n : ℕ} {selector : Operand} {parts rest : Code} {u v : Point} {m : Mark} → Flow next break continue rest u m v → Flow next break continue (switch n selector parts rest) u m v
  part_in_body : {next break continue : Point} {n which : ℕ} {keys : List ℤ} {fallback : Bool} {body others : Code} {u v : Point} {m : Mark} → Flow next break continue body u m v → Flow next break continue (part n which keys fallback body others) u m v
  part_others : {next break continue : Point} {n which : ℕ} {keys : List ℤ} {fallback : Bool} {body others : Code} {u v : Point} {m : Mark} → Flow next break continue others u m v → Flow next break continue (part n which keys fallback body others) u m v
  loop_begin : {next break continue : Point} {n : ℕ} {body continuing rest : Code} {leave : Option Operand} → Flow next break continue (loop n body continuing leave rest) (At n) Nothing (entry body (entry continuing (Turn n)))
  loop_turn : {next break continue : Point} {n : ℕ} {body continuing rest : Code} {leave : Option Operand} → Flow next break continue (loop n body continuing leave rest) (Turn n) Nothing (entry body (entry continuing (Turn n)))
  loop_leave : {next break continue : Point} {n : ℕ} {body continuing rest : Code} {operand : Operand} → Flow next break continue (loop n body continuing (Some operand) rest) (Turn n) Nothing (entry rest next)
  loop_in_body : {next break continue : Point} {n : ℕ} {body continuing rest : Code} {leave : Option Operand} {u v : Point} {m : Mark} → Flow (entry continuing (Turn n)) (entry rest next) (entry continuing (Turn n)) body u m v → Flow next break continue (loop n body continuing leave rest) u m v
  loop_in_continuing : {next break continue : Point} {n : ℕ} {body continuing rest : Code} {leave : Option Operand} {u v : Point} {m : Mark} → Flow (Turn n) (entry rest next) (Turn n) continuing u m v → Flow next break continue (loop n body continuing leave rest) u m v
  loop_rest : {next break continue : Point} {n : ℕ} {body continuing rest : Code} {leave : Option Operand} {u v : Point} {m : Mark} → Flow next break continue rest u m v → Flow next break continue (loop n body continuing leave rest) u m v

-- the ways of a whole function
abbrev pub Ways : Code → Point → Mark → Point → Type 0
Ways body u m v = Flow Past Past Past body u m v

abbrev pub same_var : Base → Base → Bool
same_var (Local i) (Local j) = nat_eq i j
same_var (Module i) (Module j) = nat_eq i j
same_var (Pointee i) (Pointee j) = nat_eq i j
same_var a b = false

-- no step leads from the variable to a part of it
abbrev pub is_whole : List ViewStep → Bool
is_whole [] = true
is_whole (step ∷ steps) = false

-- an argument that points to the whole of a variable
abbrev pub hands : Argument → Base → Bool
hands (argument.Plain operand) variable = false
hands (argument.Pointer view) variable = is_whole view.steps && same_var view.base variable

abbrev pub handed : List Argument → Base → Bool
handed [] variable = false
handed (arg ∷ args) variable = hands arg variable || handed args variable

-- an argument that points to a variable or to a part of it
abbrev pub Touches : Argument → Base → Type 0
Touches (argument.Plain operand) variable = ⊥
Touches (argument.Pointer view) variable = view.base ≡ variable

-- what makes a definition of a variable: a Declare, a Store to it or to a part of it, a call with an argument that points there
abbrev pub Makes : Mark → Base → Definition → Type 0
Makes Nothing variable by = ⊥
Makes (Stores statement other steps) variable by = (other ≡ variable) × (by ≡ definition.At statement)
Makes (Hands statement args) variable by = (j : ℕ) × (arg : Argument) × (slice_get args j ≡ Some arg) × Touches arg variable × (by ≡ definition.Argument statement j)

-- What stops the older definitions of a variable: its Declare, a Store to the whole of it, a call with an argument that points to
-- the whole of it. What writes a part stops none.
abbrev pub stops : Mark → Base → Bool
stops Nothing variable = false
stops (Stores statement other steps) variable = is_whole steps && same_var other variable
stops (Hands statement args) variable = handed args variable

-- A definition of a variable reaches a point: a walk by control flow leads there from behind it (from the function's entry, for
-- what a pointee holds then), and nothing on the walk stops it. Walks go through all statements, those too that no lane comes to.
pub data Reaches (body : Code) (variable : Base) (by : Definition) : Point → Type 0 where
  entered : {i : ℕ} → variable ≡ Pointee i → by ≡ definition.Entry i → Reaches body variable by (entry body Past)
  made_by : {u v : Point} {m : Mark} → Ways body u m v → Makes m variable by → Reaches body variable by v
  goes_by : {u v : Point} {m : Mark} → Reaches body variable by u → Ways body u m v → stops m variable ≡ false → Reaches body variable by v

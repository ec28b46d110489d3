-- Statements as one inductive type. A list of statements, the parts that a statement holds and the parts of a switch are all
-- `Code`, so that what is said of control is said by cases on it.
use Rattle.std.specs.Prelude.{ℕ, ◌+◌, ℤ, Bool, Option, List, [], ◌∷◌, map}
use Rattle.shade_base.specs.declared.severity.Severity.{Severity}
use Rattle.shade_values.specs.declared.op.Op.{Op}
use Rattle.shade_values.specs.declared.types.Space.{Space}
use Rattle.shade_core.specs.declared.statement.Operand.{Operand}
use Rattle.shade_core.specs.declared.statement.View.{View}
use Rattle.shade_core.specs.declared.statement.Argument.{Argument}
use Rattle.shade_core.specs.declared.statement.Act.{Act, Act-F, fold-Act}
use Rattle.shade_core.specs.declared.statement.Act.TheOpen as act
use Rattle.shade_core.specs.declared.statement.Act.TheOpen.{CoreStatement-F, SwitchPart-F}
use Rattle.shade_core.specs.declared.statement.CoreStatement.{CoreStatement, fold-CoreStatement}
use Rattle.shade_core.specs.declared.statement.SwitchPart.{SwitchPart, fold-SwitchPart}

-- what a statement does that has no parts and goes on to the next one
pub data Plain : Type 0 where
  Set : (op : Op) (args : List Operand) → Plain
  Load : (view : View) → Plain
  Declare : (local : ℕ) (value : Option Operand) → Plain
  Store : (view : View) (value : Operand) → Plain
  Atomic : (op : Op) (view : View) (args : List Operand) → Plain
  Barrier : (space : Space) (severity : Severity) → Plain
  UniformLoad : (view : View) (severity : Severity) → Plain
  Length : (view : View) → Plain

-- what a statement does that goes on elsewhere
pub data Jump : Type 0 where
  Break : Jump
  Continue : Jump
  Return : (value : Option Operand) → Jump

-- A list of statements, each with its number, from the first to the last. The parts of a switch are such a list too, of parts
-- in place of statements, each with the number of the switch and its own number among the parts.
pub data Code : Type 0 where
  done : Code
  plain : (number : ℕ) (act : Plain) (rest : Code) → Code
  jump : (number : ℕ) (act : Jump) (rest : Code) → Code
  call : (number function : ℕ) (args : List Argument) (rest : Code) → Code
  branch : (number : ℕ) (cond : Operand) (first second rest : Code) → Code
  switch : (number : ℕ) (selector : Operand) (parts rest : Code) → Code
  loop : (number : ℕ) (body continuing : Code) (leave : Option Operand) (rest : Code) → Code
  no_part : Code
  part : (number which : ℕ) (keys : List ℤ) (fallback : Bool) (body others : Code) → Code

-- some statements before others
abbrev pub before_all : List (Code → Code) → Code → Code
before_all [] rest = rest
before_all (f ∷ fs) rest = f (before_all fs rest)

-- the parts of the switch with a number, from the part with a number on
abbrev pub parts_from : ℕ → ℕ → List (ℕ → ℕ → Code → Code) → Code
parts_from n p [] = no_part
parts_from n p (f ∷ fs) = f n p (parts_from n (p + 1) fs)

abbrev pub act_before : Act-F (ℕ → Code → Code) (Code → Code) (ℕ → ℕ → Code → Code) → ℕ → Code → Code
act_before (act.Set op args) n rest = plain n (Set op args) rest
act_before (act.Load view) n rest = plain n (Load view) rest
act_before (act.Declare local value) n rest = plain n (Declare local value) rest
act_before (act.Store view value) n rest = plain n (Store view value) rest
act_before (act.Atomic op view args) n rest = plain n (Atomic op view args) rest
act_before (act.Call function args) n rest = call n function args rest
act_before (act.Barrier space severity) n rest = plain n (Barrier space severity) rest
act_before (act.UniformLoad view severity) n rest = plain n (UniformLoad view severity) rest
act_before (act.Length view) n rest = plain n (Length view) rest
act_before (act.If cond first second) n rest = branch n cond (before_all first done) (before_all second done) rest
act_before (act.Switch selector parts) n rest = switch n selector (parts_from n 0 parts) rest
act_before (act.Loop body continuing leave) n rest = loop n (before_all body done) (before_all continuing done) leave rest
act_before act.Break n rest = jump n Break rest
act_before act.Continue n rest = jump n Continue rest
act_before (act.Return value) n rest = jump n (Return value) rest

abbrev pub statement_before : CoreStatement-F (ℕ → Code → Code) (Code → Code) (ℕ → ℕ → Code → Code) → Code → Code
statement_before s rest = s.act s.number rest

abbrev pub part_before : SwitchPart-F (ℕ → Code → Code) (Code → Code) (ℕ → ℕ → Code → Code) → ℕ → ℕ → Code → Code
part_before p n which others = part n which p.keys p.fallback (before_all p.body done) others

-- an act with a number before other statements
abbrev pub act_code : Act → ℕ → Code → Code
act_code = fold-Act (ℕ → Code → Code) (Code → Code) (ℕ → ℕ → Code → Code) act_before statement_before part_before

-- a statement before others
abbrev pub statement_code : CoreStatement → Code → Code
statement_code = fold-CoreStatement (ℕ → Code → Code) (Code → Code) (ℕ → ℕ → Code → Code) act_before statement_before part_before

-- a part of a switch before other parts of it
abbrev pub part_code : SwitchPart → ℕ → ℕ → Code → Code
part_code = fold-SwitchPart (ℕ → Code → Code) (Code → Code) (ℕ → ℕ → Code → Code) act_before statement_before part_before

-- what a list of statements is read as
abbrev pub code_of : List CoreStatement → Code
code_of statements = before_all (map statement_code statements) done

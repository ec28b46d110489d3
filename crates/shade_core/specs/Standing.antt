-- The statements of a function in structure order: a list from first to last, each If, Switch and Loop before its parts, a body
-- before its continuing part.
use Rattle.std.specs.Prelude.{◌≡◌, ℕ, ◌+◌, ℤ, Bool, true, ◌&&◌, ◌==◌, Option, Some, List, [], ◌∷◌, ◌++◌, map, slice_get, IsTrue}
use Rattle.shade_core.specs.declared.statement.Operand.{Operand}
use Rattle.shade_core.specs.declared.statement.Argument.{Argument}
use Rattle.shade_core.specs.declared.statement.Act.{Act, Act-F, out-Act}
use Rattle.shade_core.specs.declared.statement.Act.TheOpen as act
use Rattle.shade_core.specs.declared.module.CoreFunction.{CoreFunction}
use Rattle.shade_core.specs.declared.statement.CoreStatement.{CoreStatement}
use Rattle.shade_core.specs.declared.statement.SwitchPart.{SwitchPart, out-SwitchPart}
use Rattle.shade_core.specs.Code.{Plain, Set, Load, Declare, Store, Atomic, Barrier, UniformLoad, Length, Jump, Break, Continue, Return, Code, done, plain, jump, call, branch, switch, loop, no_part, part, code_of}

-- a part of a switch, without its statements
pub record Case : Type 0 where
  pub keys : List ℤ
  pub fallback : Bool

-- what a statement does, without the statements of its parts
pub data Head : Type 0 where
  does : (act : Plain) → Head
  jumps : (act : Jump) → Head
  calls : (function : ℕ) (args : List Argument) → Head
  branches : (cond : Operand) → Head
  switches : (selector : Operand) (cases : List Case) → Head
  loops : (leave : Option Operand) → Head

-- a statement by itself
pub record Standing : Type 0 where
  pub number : ℕ
  pub head : Head

abbrev pub standing : ℕ → Head → Standing
standing number head = record { number = number; head = head }

-- the parts of a switch, in order
abbrev pub cases_of : Code → List Case
cases_of (part n which keys fallback body others) = record { keys = keys; fallback = fallback } ∷ cases_of others
cases_of _ = []

-- all statements of a list, with those of the parts of its statements
abbrev pub statements : Code → List Standing
statements done = []
statements (plain n act rest) = standing n (does act) ∷ statements rest
statements (jump n act rest) = standing n (jumps act) ∷ statements rest
statements (call n g args rest) = standing n (calls g args) ∷ statements rest
statements (branch n cond first second rest) = standing n (branches cond) ∷ statements first ++ statements second ++ statements rest
statements (switch n selector parts rest) = standing n (switches selector (cases_of parts)) ∷ statements parts ++ statements rest
statements (loop n body continuing leave rest) = standing n (loops leave) ∷ statements body ++ statements continuing ++ statements rest
statements no_part = []
statements (part n which keys fallback body others) = statements body ++ statements others

-- ---- a statement of the core form by itself

abbrev pub case_of : SwitchPart → Case
case_of p = record { keys = (out-SwitchPart p).keys; fallback = (out-SwitchPart p).fallback }

abbrev pub act_head : Act-F Act CoreStatement SwitchPart → Head
act_head (act.Set op args) = does (Set op args)
act_head (act.Load view) = does (Load view)
act_head (act.Declare local value) = does (Declare local value)
act_head (act.Store view value) = does (Store view value)
act_head (act.Atomic op view args) = does (Atomic op view args)
act_head (act.Call function args) = calls function args
act_head (act.Barrier space severity) = does (Barrier space severity)
act_head (act.UniformLoad view severity) = does (UniformLoad view severity)
act_head (act.Length view) = does (Length view)
act_head (act.If cond first second) = branches cond
act_head (act.Switch selector parts) = switches selector (map case_of parts)
act_head (act.Loop body continuing leave) = loops leave
act_head act.Break = jumps Break
act_head act.Continue = jumps Continue
act_head (act.Return value) = jumps (Return value)

abbrev pub head_of : Act → Head
head_of a = act_head (out-Act a)

abbrev pub by_itself : CoreStatement → Standing
by_itself s = standing s.number (head_of s.act)

-- ---- their numbers

-- the statements have the numbers from n on, one after another
abbrev pub are_numbered : ℕ → List Standing → Bool
are_numbered n [] = true
are_numbered n (s ∷ statements) = (s.number == n) && are_numbered (n + 1) statements

-- all statements of each function have the numbers from 0 on, one after another
abbrev pub AreNumbered : List CoreFunction → Type 0
AreNumbered functions = (k : ℕ) (f : CoreFunction) → slice_get functions k ≡ Some f → IsTrue (are_numbered 0 (statements (code_of f.body)))

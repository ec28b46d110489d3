-- Calls, chains of calls, and what a chain adds up to.
use Rattle.std.specs.Prelude.{◌≡◌, ℕ, ◌+◌, List, [], ◌∷◌, ◌++◌, Option, None, Some, slice_get, Contains}
use Rattle.shade_core.specs.declared.module.CoreFunction.{CoreFunction}
use Rattle.shade_core.specs.declared.module.CoreModule.{CoreModule}
use Rattle.shade_core.specs.Code.{Plain, Barrier, UniformLoad, Code, done, plain, jump, call, branch, switch, loop, no_part, part, code_of}

-- the calls of some statements: the callee, and how many loops stand around the call
abbrev pub calls_in : ℕ → Code → List (ℕ × ℕ)
calls_in loops done = []
calls_in loops (plain n act rest) = calls_in loops rest
calls_in loops (jump n act rest) = calls_in loops rest
calls_in loops (call n g args rest) = (g, loops) ∷ calls_in loops rest
calls_in loops (branch n cond first second rest) = calls_in loops first ++ calls_in loops second ++ calls_in loops rest
calls_in loops (switch n selector parts rest) = calls_in loops parts ++ calls_in loops rest
calls_in loops (loop n body continuing leave rest) = calls_in (loops + 1) body ++ calls_in (loops + 1) continuing ++ calls_in loops rest
calls_in loops no_part = []
calls_in loops (part n which keys fallback body others) = calls_in loops body ++ calls_in loops others

-- of each statement at which all lanes meet, how many loops stand around it
abbrev pub meetings_in : ℕ → Code → List ℕ
meetings_in loops done = []
meetings_in loops (plain n (Barrier in_space severity) rest) = loops ∷ meetings_in loops rest
meetings_in loops (plain n (UniformLoad view severity) rest) = loops ∷ meetings_in loops rest
meetings_in loops (plain n act rest) = meetings_in loops rest
meetings_in loops (jump n act rest) = meetings_in loops rest
meetings_in loops (call n g args rest) = meetings_in loops rest
meetings_in loops (branch n cond first second rest) = meetings_in loops first ++ meetings_in loops second ++ meetings_in loops rest
meetings_in loops (switch n selector parts rest) = meetings_in loops parts ++ meetings_in loops rest
meetings_in loops (loop n body continuing leave rest) = meetings_in (loops + 1) body ++ meetings_in (loops + 1) continuing ++ meetings_in loops rest
meetings_in loops no_part = []
meetings_in loops (part n which keys fallback body others) = meetings_in loops body ++ meetings_in loops others

-- function k calls function g, with so many loops around
pub record CallsIn (shader : CoreModule) (k g loops : ℕ) : Type 0 where
  pub function : CoreFunction
  pub at : slice_get shader.functions k ≡ Some function
  pub stands : Contains (calls_in 0 (code_of function.body)) (g, loops)

pub record Calls (shader : CoreModule) (k g : ℕ) : Type 0 where
  pub loops : ℕ
  pub stands : CallsIn shader k g loops

-- all lanes meet in function k, with so many loops around
pub record MeetsIn (shader : CoreModule) (k loops : ℕ) : Type 0 where
  pub function : CoreFunction
  pub at : slice_get shader.functions k ≡ Some function
  pub stands : Contains (meetings_in 0 (code_of function.body)) loops

-- one or more calls, one inside another, lead from a function to a function
pub data LeadsBy (shader : CoreModule) (k : ℕ) : ℕ → Type 0 where
  first : {g : ℕ} → Calls shader k g → LeadsBy shader k g
  more : {g h : ℕ} → LeadsBy shader k g → Calls shader g h → LeadsBy shader k h

-- What a chain of calls adds up to: what its last function has, and what each other one has where it calls the next.
pub data Chain (Last : ℕ → ℕ → Type 0) (Passes : ℕ → ℕ → ℕ → Type 0) : ℕ → ℕ → Type 0 where
  last : {k total : ℕ} → Last k total → Chain Last Passes k total
  on : {k total : ℕ} (g own rest : ℕ) → Passes k g own → Chain Last Passes g rest → total ≡ own + rest → Chain Last Passes k total

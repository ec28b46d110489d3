-- Clean modules. (This project's rule, after WGSL, "Uniformity analysis".) Statements that have no rules yet add their own cases.
use Rattle.std.specs.Prelude.{◌≡◌, ℕ, true, List, Some, slice_get}
use Rattle.shade_base.specs.declared.severity.Severity.{Severity}
use Rattle.shade_base.specs.declared.severity.Severity.TheVariants.{Off}
use Rattle.shade_values.specs.declared.types.Space.{Space}
use Rattle.shade_core.specs.declared.statement.Operand.{Operand}
use Rattle.shade_core.specs.declared.module.CoreFunction.{CoreFunction}
use Rattle.shade_core.specs.Code.{Plain, Barrier, Code, plain, branch, code_of}
use Rattle.shade_core.specs.Behaviour.{branch_behaviour}
use Rattle.shade_core.specs.Control.{HasNoBehaviourFault}
use Rattle.shade_core.specs.Rules.{all_have_rules}
use Rattle.shade_graph.specs.declared.node.Node.{Node}
use Rattle.shade_verdict.specs.Violations.{IsViolation}

-- an analysed barrier of a list has the severity Off
pub data HasOff : Code → Type 0 where
  off_here : {n : ℕ} {space : Space} {rest : Code} → HasOff (plain n (Barrier space Off) rest)
  off_rest : {n : ℕ} {act : Plain} {rest : Code} → HasOff rest → HasOff (plain n act rest)
  off_in_one : {n : ℕ} {cond : Operand} {one two rest : Code} → HasOff one → HasOff (branch n cond one two rest)
  off_in_two : {n : ℕ} {cond : Operand} {one two rest : Code} → HasOff two → HasOff (branch n cond one two rest)
  off_behind : {n : ℕ} {cond : Operand} {one two rest : Code} → (branch_behaviour one two).next ≡ true → HasOff rest → HasOff (branch n cond one two rest)

-- A module is clean where it has rules, no function has a fault of behaviour, it has no violation of any severity, and no barrier drops its
-- requirement.
pub record IsClean (functions : List CoreFunction) : Type 0 where
  pub rules : all_have_rules functions ≡ true
  pub behaved : (number : ℕ) (function : CoreFunction) → slice_get functions number ≡ Some function → HasNoBehaviourFault function
  pub none : (number : ℕ) (severity : Severity) (node : Node) → IsViolation functions number severity node → ⊥
  pub asked : (number : ℕ) (function : CoreFunction) → slice_get functions number ≡ Some function → HasOff (code_of function.body) → ⊥

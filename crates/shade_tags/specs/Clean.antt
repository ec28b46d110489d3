-- Clean modules. (This project's rule, after WGSL, "Uniformity analysis", "Alias Analysis" and "Statement Behavior Analysis".)
use Rattle.std.specs.Prelude.{◌≡◌, ℕ, List, All, Some, slice_get}
use Rattle.shade_base.specs.declared.severity.Severity.{Severity}
use Rattle.shade_base.specs.declared.severity.Severity.TheVariants.{Off}
use Rattle.shade_core.specs.declared.module.CoreFunction.{CoreFunction}
use Rattle.shade_core.specs.declared.module.CoreModule.{CoreModule}
use Rattle.shade_core.specs.Code.{Plain, Code, plain, code_of}
use Rattle.shade_core.specs.Control.{HasNoBehaviourFault}
use Rattle.shade_graph.specs.declared.node.Node.{Node}
use Rattle.shade_graph.specs.declared.node.Node.TheVariants.{Start}
use Rattle.shade_graph.specs.declared.node.Tag.{Tag}
use Rattle.shade_rules.specs.Aliases.{AreFree}
use Rattle.shade_uniformity.specs.Rows.{Collects}
use Rattle.shade_uniformity.specs.Structure.{Analysed}
use Rattle.shade_tags.specs.Violations.{IsViolation}

-- an analysed statement of a function at which all lanes have to wait together, and of which nothing is asked
pub record DropsRequirement (function : CoreFunction) : Type 0 where
  pub under : Node
  pub number : ℕ
  pub act : Plain
  pub rest : Code
  pub stands : Analysed Start (code_of function.body) under (plain number act rest)
  pub off : Collects act Off

-- A module without violations of whatever severity, of which no requirement is dropped. It is the part of `IsClean` that the verdict tells.
pub record IsUniform (shader : CoreModule) (tags : List (List Tag)) : Type 0 where
  pub none : (number : ℕ) (severity : Severity) (node : Node) → IsViolation shader tags number severity node → ⊥
  pub asked : (number : ℕ) (function : CoreFunction) → slice_get shader.functions number ≡ Some function → DropsRequirement function → ⊥

-- A module is clean where no function has a fault of behaviour, no call has an alias, it has no violation and drops no requirement.
pub record IsClean (shader : CoreModule) (tags : List (List Tag)) : Type 0 where
  pub behaved : (number : ℕ) (function : CoreFunction) → slice_get shader.functions number ≡ Some function → HasNoBehaviourFault function
  pub free : All (AreFree shader.functions) shader.functions
  pub uniform : IsUniform shader tags

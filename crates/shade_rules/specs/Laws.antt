-- Laws of faults of behaviour and of aliases.
use Rattle.std.specs.Prelude.{◌≡◌, List, All}
use Rattle.shade_core.specs.declared.module.CoreFunction.{CoreFunction}
use Rattle.shade_core.specs.Control.{HasNoBehaviourFault}
use Rattle.shade_rules.specs.declared.fault.BehaviourFault.{BehaviourFault}
use Rattle.shade_rules.specs.declared.aliasing.AliasFault.{AliasFault}
use Rattle.shade_rules.specs.Aliases.{AreFree, IsFirstAlias}
use Rattle.shade_rules.specs.Faults.{IsFirstFault}

-- A module has one first fault at most, and none where no function has one.
pub record OneFault : Type 0 where
  pub one : (functions : List CoreFunction) (fault other : BehaviourFault) → IsFirstFault functions fault → IsFirstFault functions other → fault ≡ other
  pub none : (functions : List CoreFunction) (fault : BehaviourFault) → All HasNoBehaviourFault functions → IsFirstFault functions fault → ⊥

-- A module has one first alias at most, and none where each function is free of them.
pub record OneAlias : Type 0 where
  pub one : (functions : List CoreFunction) (fault other : AliasFault) → IsFirstAlias functions fault → IsFirstAlias functions other → fault ≡ other
  pub none : (functions : List CoreFunction) (fault : AliasFault) → All (AreFree functions) functions → IsFirstAlias functions fault → ⊥

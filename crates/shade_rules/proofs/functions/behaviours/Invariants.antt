use Rattle.std.proofs.Common.{◌≡◌, map, take}
use Rattle.std.specs.Prelude.{All}
use Rattle.shade_core.specs.Behaviour.{body_behaviours}
use Rattle.shade_core.specs.Control.{HasNoBehaviourFault}
use Rattle.shade_rules.proofs.functions.behaviours.Given as goal

abbrev pub invariant-functions : goal.invariant-functions
invariant-functions l = record {
  table : l.rows.items ≡ map body_behaviours (take l.function-index l.function-items);
  none : All HasNoBehaviourFault (take l.function-index l.function-items);
}

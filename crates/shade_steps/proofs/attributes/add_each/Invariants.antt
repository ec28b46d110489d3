use Rattle.std.proofs.Common.{◌≡◌, ◌++◌, drop, None}
use Rattle.std.specs.List.{flat_map}
use Rattle.shade_steps.specs.Steps.{steps_of_value}
use Rattle.shade_steps.proofs.attributes.add_each.Given as goal

abbrev pub invariant-loop-e : goal.invariant-loop-e
invariant-loop-e l = l.out ++ flat_map (steps_of_value None) (drop l.e-index l.exprs) ≡ l.initial.out ++ flat_map (steps_of_value None) l.exprs

use Rattle.std.proofs.Common.{◌≡◌, ◌++◌, drop}
use Rattle.std.specs.List.{flat_map}
use Rattle.shade_steps.specs.declared.step.Slot.TheVariants as slot
use Rattle.shade_steps.specs.Steps.{steps_of_value, steps_of_listed}
use Rattle.shade_steps.proofs.expressions.+steps.Given as goal

abbrev pub invariant-add_values-loop-e : goal.invariant-add_values-loop-e
invariant-add_values-loop-e l = l.out ++ flat_map (steps_of_value l.under) (drop l.e-index l.e-items) ≡ l.initial.out ++ flat_map (steps_of_value l.under) l.e-items

abbrev pub invariant-add_listed-loop-e : goal.invariant-add_listed-loop-e
invariant-add_listed-loop-e l = l.out ++ steps_of_listed l.list l.name l.slot (drop l.e-index l.e-items) ≡ l.initial.out ++ steps_of_listed l.list l.name slot.First l.e-items

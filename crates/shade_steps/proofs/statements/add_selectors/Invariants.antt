use Rattle.std.proofs.Common.{◌≡◌, ◌++◌, drop}
use Rattle.std.specs.List.{flat_map}
use Rattle.shade_steps.specs.Statements.{selector_steps}
use Rattle.shade_steps.proofs.statements.add_selectors.Given as goal

abbrev pub invariant-loop-selector : goal.invariant-loop-selector
invariant-loop-selector l = l.out ++ flat_map (selector_steps l.switch) (drop l.selector-index l.selector-items) ≡ l.initial.out ++ flat_map (selector_steps l.switch) l.selector-items

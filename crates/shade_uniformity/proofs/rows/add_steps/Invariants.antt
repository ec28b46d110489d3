use Rattle.std.proofs.Common.{◌≡◌, ◌++◌, drop}
use Rattle.std.specs.List.{flat_map}
use Rattle.shade_uniformity.specs.RowLists.{step_rows}
use Rattle.shade_uniformity.proofs.rows.add_steps.Given as goal

abbrev pub invariant-steps : goal.invariant-steps
invariant-steps l = l.rows.items ++ flat_map (step_rows l.statement l.from) (drop l.step-index l.step-items) ≡ l.initial.rows.items ++ flat_map (step_rows l.statement l.from) l.step-items

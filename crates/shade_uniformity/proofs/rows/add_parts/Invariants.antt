use Rattle.std.proofs.Common.{◌≡◌, ◌++◌, drop}
use Rattle.std.specs.List.{flat_map}
use Rattle.shade_uniformity.specs.RowLists.{selected_rows}
use Rattle.shade_uniformity.proofs.rows.add_parts.Given as goal

abbrev pub invariant-parts : goal.invariant-parts
invariant-parts l =
    l.rows.items ++ flat_map (selected_rows l.number l.goes_on l.operand) (drop l.part-index l.parts) ≡ l.initial.rows.items ++ flat_map (selected_rows l.number l.goes_on l.operand) l.parts

use Rattle.std.proofs.Common.{◌≡◌, ◌++◌, drop}
use Rattle.std.specs.List.{flat_map}
use Rattle.shade_uniformity.specs.RowLists.{operand_rows}
use Rattle.shade_uniformity.proofs.rows.add_operands.Given as goal

abbrev pub invariant-operands : goal.invariant-operands
invariant-operands l = l.rows.items ++ flat_map (operand_rows l.statement l.from) (drop l.operand-index l.operand-items) ≡ l.initial.rows.items ++ flat_map (operand_rows l.statement l.from) l.operand-items

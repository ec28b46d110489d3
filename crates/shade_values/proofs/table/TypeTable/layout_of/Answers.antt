use Rattle.shade_values.proofs.ShapeLaws.{kept_layout}
use Rattle.shade_values.proofs.table.TypeTable.layout_of.Goals as goal

pub returns-clause-layout : goal.returns-clause-layout
returns-clause-layout c = rw (← c.self.view_is) (kept_layout _ _ c.args.id c.index-entry.result.now c.self.invariant (rw (← c.self.view_is) at c.requires) c.index-entry.ensures)

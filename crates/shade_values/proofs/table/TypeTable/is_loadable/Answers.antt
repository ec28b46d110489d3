use Rattle.shade_values.proofs.ShapeLaws.{kept_load}
use Rattle.shade_values.proofs.table.TypeTable.is_loadable.Goals as goal

pub returns : goal.returns
returns c = rw (← c.self.view_is) (kept_load _ _ c.args.id c.index-entry.result.now c.self.invariant (rw (← c.self.view_is) at c.requires) c.index-entry.ensures)

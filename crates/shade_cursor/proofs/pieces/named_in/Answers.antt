use Rattle.std.proofs.Common.{sym, ◌∙◌}
use Rattle.shade_cursor.proofs.PieceLaws.{entry_names, entry_other}
use Rattle.shade_cursor.proofs.pieces.named_in.Goals as goal

pub returns-then-eq : goal.returns-then-eq
returns-then-eq g c = sym (c.entries.invariant ∙ entry_names _ _ _ _ c.entries-test.true c.entries-item.is c.if-eq.ensures)

pub entries-preserved : goal.entries-preserved
entries-preserved g c = c.entries.invariant ∙ entry_other _ _ _ _ c.entries-test.true c.entries-item.is c.if-eq.ensures

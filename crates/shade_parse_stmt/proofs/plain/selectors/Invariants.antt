use Rattle.std.proofs.Common.{length, ◌-◌}
use Rattle.shade_cursor.specs.Shown.{lexemes}
use Rattle.shade_parse_stmt.proofs.SelectorsLaws.{SelectorWalk}
use Rattle.shade_parse_stmt.proofs.plain.selectors.Given as goal

abbrev pub invariant-list : goal.invariant-list
invariant-list l = SelectorWalk (lexemes l.pieces) (length l.pieces) l.fn.names l.names l.from l.node l.items l.at l.next

abbrev pub decreases-list : goal.decreases-list
decreases-list l = length l.pieces - l.at

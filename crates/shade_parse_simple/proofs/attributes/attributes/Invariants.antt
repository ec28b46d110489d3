use Rattle.std.proofs.Common.{length, ◌-◌}
use Rattle.shade_cursor.specs.Shown.{lexemes}
use Rattle.shade_parse_simple.proofs.AttributeTrees.{AttrTurn}
use Rattle.shade_parse_simple.proofs.attributes.attributes.Given as goal

abbrev pub invariant-attrs : goal.invariant-attrs
invariant-attrs l = AttrTurn (lexemes l.pieces) (length l.pieces) l.fn.names l.names l.from l.node l.attrs l.at l.next

abbrev pub decreases-attrs : goal.decreases-attrs
decreases-attrs l = length l.pieces - l.at

use Rattle.std.proofs.Common.{length, ◌-◌}
use Rattle.shade_cursor.specs.Shown.{lexemes}
use Rattle.shade_ast.specs.declared.lexeme.Sign.TheVariants as sign
use Rattle.shade_ast.specs.Statements.{Name}
use Rattle.shade_parse_simple.specs.Readings.{named_seen}
use Rattle.shade_parse.proofs.ListTurns.{ListTurn}
use Rattle.shade_parse.proofs.members.name_list.Given as goal

abbrev pub invariant-items : goal.invariant-items
invariant-items l = ListTurn named_seen Name sign.Semicolon (lexemes l.pieces) (length l.pieces) l.fn.names l.names l.from l.node l.items l.at l.next

abbrev pub decreases-items : goal.decreases-items
decreases-items l = length l.pieces - l.at

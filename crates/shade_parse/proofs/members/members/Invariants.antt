use Rattle.std.proofs.Common.{length, ◌-◌}
use Rattle.shade_cursor.specs.Shown.{lexemes}
use Rattle.shade_ast.specs.Declarations.{MemberOf}
use Rattle.shade_parse.specs.Parts.{member_seen}
use Rattle.shade_parse.proofs.ListTurns.{ListTurn}
use Rattle.shade_parse.proofs.members.members.Given as goal

abbrev pub invariant-items : goal.invariant-items
invariant-items l = ListTurn member_seen MemberOf l.closer (lexemes l.pieces) (length l.pieces) l.fn.names l.names l.from l.node l.items l.at l.next

abbrev pub decreases-items : goal.decreases-items
decreases-items l = length l.pieces - l.at

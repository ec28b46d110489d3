use Rattle.std.proofs.Common.{length, ◌-◌, ◌+◌, ◌*◌}
use Rattle.shade_cursor.specs.Shown.{lexemes}
use Rattle.shade_parse_stmt.proofs.Loops.{StatementWalk}
use Rattle.shade_parse_stmt.proofs.Arms.{ArmWalk}
use Rattle.shade_parse_stmt.proofs.LastBodies.{LastWalk}
use Rattle.shade_parse_stmt.proofs.SwitchLaws.{ClauseWalk}
use Rattle.shade_parse_stmt.proofs.statements.+statement.Given as goal

abbrev pub decreases-braced : goal.decreases-braced
decreases-braced l = 4 * (length l.pieces.now - l.from) + 3

abbrev pub decreases-guarded : goal.decreases-guarded
decreases-guarded l = 4 * (length l.pieces.now - l.from) + 0

abbrev pub decreases-block : goal.decreases-block
decreases-block l = 4 * (length l.pieces.now - l.from) + 0

abbrev pub decreases-statement : goal.decreases-statement
decreases-statement l = 4 * (length l.pieces.now - l.from) + 1

abbrev pub decreases-compound : goal.decreases-compound
decreases-compound l = 4 * (length l.pieces.now - l.from) + 0

abbrev pub decreases-statements : goal.decreases-statements
decreases-statements l = 4 * (length l.pieces.now - l.from) + 2

abbrev pub decreases-branches : goal.decreases-branches
decreases-branches l = 4 * (length l.pieces.now - l.from) + 0

abbrev pub decreases-for_parts : goal.decreases-for_parts
decreases-for_parts l = 4 * (length l.pieces.now - l.from) + 0

abbrev pub decreases-loop_end : goal.decreases-loop_end
decreases-loop_end l = 4 * (length l.pieces.now - l.from) + 0

abbrev pub decreases-last_body : goal.decreases-last_body
decreases-last_body l = 4 * (length l.pieces.now - l.from) + 2

abbrev pub decreases-continuing : goal.decreases-continuing
decreases-continuing l = 4 * (length l.pieces.now - l.from) + 3

abbrev pub decreases-loop_parts : goal.decreases-loop_parts
decreases-loop_parts l = 4 * (length l.pieces.now - l.from) + 0

abbrev pub decreases-clause_body : goal.decreases-clause_body
decreases-clause_body l = 4 * (length l.pieces.now - l.from) + 1

abbrev pub decreases-clause : goal.decreases-clause
decreases-clause l = 4 * (length l.pieces.now - l.from) + 1

abbrev pub decreases-clauses : goal.decreases-clauses
decreases-clauses l = 4 * (length l.pieces.now - l.from) + 2

abbrev pub decreases-switch_parts : goal.decreases-switch_parts
decreases-switch_parts l = 4 * (length l.pieces.now - l.from) + 0

abbrev pub invariant-statements-list : goal.invariant-statements-list
invariant-statements-list l = StatementWalk (lexemes l.pieces) (length l.pieces) l.fn.names l.names l.from l.node l.list l.at l.next

abbrev pub decreases-statements-list : goal.decreases-statements-list
decreases-statements-list l = length l.pieces - l.at

abbrev pub invariant-branches-arms : goal.invariant-branches-arms
invariant-branches-arms l = ArmWalk (lexemes l.pieces) (length l.pieces) l.fn.names l.names l.from l.node l.arms l.at l.next

abbrev pub decreases-branches-arms : goal.decreases-branches-arms
decreases-branches-arms l = length l.pieces - l.at

abbrev pub invariant-clauses-list : goal.invariant-clauses-list
invariant-clauses-list l = ClauseWalk (lexemes l.pieces) (length l.pieces) l.fn.names l.names l.from l.node l.list l.at l.next

abbrev pub decreases-clauses-list : goal.decreases-clauses-list
decreases-clauses-list l = length l.pieces - l.at

abbrev pub invariant-last_body-list : goal.invariant-last_body-list
invariant-last_body-list l = LastWalk (lexemes l.pieces) (length l.pieces) l.fn.names l.names l.from l.node l.statements l.at l.next

abbrev pub decreases-last_body-list : goal.decreases-last_body-list
decreases-last_body-list l = length l.pieces - l.at

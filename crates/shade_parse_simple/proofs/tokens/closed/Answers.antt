use Rattle.std.proofs.Common.{◌+◌, [], arith}
use Rattle.shade_parse_simple.specs.Rests.{Ending}
use Rattle.shade_cursor.specs.Shown.{lexemes}
use Rattle.shade_parse_expr.proofs.Turns.{fails_here}
use Rattle.shade_parse_simple.proofs.Faulty.{within, reads_to}
use Rattle.shade_parse_simple.proofs.Endings.{ending_now, ending_stuck, ending_reads, ending_open}
use Rattle.shade_parse_simple.proofs.tokens.closed.Goals as goal

pub returns-in-Some-clause-tree : goal.returns-in-Some-clause-tree
returns-in-Some-clause-tree c = ending_now c.args.closer (within c.args.pieces.now c.args.from c.requires.within) _ c.in-Some.ensures.value c.requires.closer

pub returns-in_default-mark_at-clause-tree : goal.returns-in_default-mark_at-clause-tree
returns-in_default-mark_at-clause-tree c = fails_here (Ending c.args.closer) 0 (lexemes c.args.pieces.now) [] [] c.args.from c.args.from (omega arith) (ending_stuck c.args.closer (within c.args.pieces.now c.args.from c.requires.within) c.in_default.ensures.value c.in_default-mark_at.ensures.value)

pub returns-in_default-mark_at-2-clause-tree : goal.returns-in_default-mark_at-2-clause-tree
returns-in_default-mark_at-2-clause-tree c = fails_here (Ending c.args.closer) 0 (lexemes c.args.pieces.now) [] [] c.args.from (c.args.from + 1) (omega arith)
    (ending_open c.args.closer (within c.args.pieces.now c.args.from c.requires.within) c.in_default.ensures.value _ c.in-Some-mark_at.ensures.value c.in_default-mark_at-2.ensures.value)

pub returns-clause-tree : goal.returns-clause-tree
returns-clause-tree c = reads_to (c.args.from + 1 + 1) (c.args.from + 2) (omega arith) (ending_reads c.args.closer (within c.args.pieces.now c.args.from c.requires.within) c.in_default.ensures.value _ c.in-Some-mark_at.ensures.value _ c.in-Some-mark_at-2.ensures.value)

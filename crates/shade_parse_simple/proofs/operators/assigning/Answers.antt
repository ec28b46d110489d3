use Rattle.std.proofs.Common.{sym, ◌+◌, [], arith}
use Rattle.shade_cursor.specs.Shown.{lexemes}
use Rattle.shade_parse_expr.proofs.Turns.{fails_here}
use Rattle.shade_parse_simple.specs.Updates.{Assigning}
use Rattle.shade_parse_simple.proofs.AssigningLaws.{one_reads, none_fails, shift_second_fails, shift_third_fails, shift_reads}
use Rattle.shade_parse_simple.proofs.Faulty.{within}
use Rattle.shade_parse_simple.proofs.operators.assigning.Goals as goal

pub returns-in-Some-clause-sign : goal.returns-in-Some-clause-sign
returns-in-Some-clause-sign c = one_reads (sym c.in-Some.ensures.value)

pub returns-in_default-mark_at-clause-sign : goal.returns-in_default-mark_at-clause-sign
returns-in_default-mark_at-clause-sign c = fails_here Assigning 0 (lexemes c.args.pieces.now) [] [] c.args.from c.args.from (omega arith) (none_fails (within c.args.pieces.now c.args.from c.requires.within) (sym c.in_default.ensures.value) c.in_default-mark_at.ensures.value)

pub returns-in_default-mark_behind-clause-sign : goal.returns-in_default-mark_behind-clause-sign
returns-in_default-mark_behind-clause-sign c = fails_here Assigning 0 (lexemes c.args.pieces.now) [] [] c.args.from (c.args.from + 1) (omega arith)
    (shift_second_fails (within c.args.pieces.now c.args.from c.requires.within) _ c.in-Some-mark_at.ensures.value
    (within c.args.pieces.now (c.args.from + 1) (omega (arith, c.in-Some-mark_at.ensures.within))) c.in_default-mark_behind.ensures.value)

pub returns-in_default-mark_behind-2-clause-sign : goal.returns-in_default-mark_behind-2-clause-sign
returns-in_default-mark_behind-2-clause-sign c = fails_here Assigning 0 (lexemes c.args.pieces.now) [] [] c.args.from (c.args.from + 2) (omega arith)
    (shift_third_fails (within c.args.pieces.now c.args.from c.requires.within) _ c.in-Some-mark_at.ensures.value _ c.in-Some-mark_behind.ensures.value.0
    c.in-Some-mark_behind.ensures.value.1 (within c.args.pieces.now (c.args.from + 2) (omega (arith, c.in-Some-mark_behind.ensures.within))) c.in_default-mark_behind-2.ensures.value)

pub returns-clause-sign : goal.returns-clause-sign
returns-clause-sign c = shift_reads (within c.args.pieces.now c.args.from c.requires.within) _ c.in-Some-mark_at.ensures.value _ c.in-Some-mark_behind.ensures.value.0 c.in-Some-mark_behind.ensures.value.1 _ c.in-Some-mark_behind-2.ensures.value.0 c.in-Some-mark_behind-2.ensures.value.1

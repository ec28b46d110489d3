use Rattle.std.proofs.Common.{refl, ◌+◌, arith}
use Rattle.shade_ast.specs.Expressions.{Expression}
use Rattle.shade_ast.specs.Statements.{HasValue}
use Rattle.shade_cursor.specs.Shown.{lexemes}
use Rattle.shade_parse_expr.proofs.Turns.{errs, fault_on, fails_here}
use Rattle.shade_parse_simple.proofs.Faulty.{within}
use Rattle.shade_parse_simple.proofs.Widens.{part_reads, reads_on}
use Rattle.shade_parse_simple.proofs.Openings.{has_value_opens, opened_none, opened_reads, opened_fails, expression_closes}
use Rattle.shade_parse_simple.proofs.bindings.has_value.Goals as goal

pub returns-in_default-clause-tree : goal.returns-in_default-clause-tree
returns-in_default-clause-tree c = fails_here HasValue 7 (lexemes c.args.pieces.now) c.args.names.now c.args.names.now c.args.from c.args.from (omega arith)
    (opened_none has_value_opens {m = 7} (omega arith) (within c.args.pieces.now c.args.from c.requires.can.within) expression_closes c.in_default.ensures.value)

pub returns-in_err-value-clause-tree : goal.returns-in_err-value-clause-tree
returns-in_err-value-clause-tree c = errs _ c.in_err-value.field-0.0 _ _ c.from_residual.ensures.1
    (fault_on HasValue Expression 7 7 (lexemes c.args.pieces.now) c.args.names.now c.args.names.now _ c.args.from (c.args.from + 1) c.in_err-value.field-0.0 (omega arith)
    (λ to f. opened_fails has_value_opens (omega arith) (within c.args.pieces.now c.args.from c.requires.can.within) (λ p. refl) _ c.in-Some.ensures.value f) c.in_err-value.ensures.tree)

pub returns-clause-tree : goal.returns-clause-tree
returns-clause-tree c = reads_on Expression 7 (c.args.from + 1) (λ g. opened_reads has_value_opens (omega arith) (within c.args.pieces.now c.args.from c.requires.can.within) (λ p. refl) _ c.in-Some.ensures.value g) (part_reads c.in_ok-value.ensures.tree)

use Rattle.std.proofs.Common.{refl, ◌+◌, arith}
use Rattle.shade_ast.specs.Expressions.{TypeName}
use Rattle.shade_ast.specs.Statements.{OfType}
use Rattle.shade_cursor.specs.Shown.{lexemes}
use Rattle.shade_parse_expr.proofs.Turns.{errs, fault_on, fails_here}
use Rattle.shade_parse_simple.proofs.Faulty.{within}
use Rattle.shade_parse_simple.proofs.Widens.{part_reads, reads_on}
use Rattle.shade_parse_simple.proofs.Openings.{of_type_opens, opened_none, opened_reads, opened_fails, type_closes}
use Rattle.shade_parse_simple.proofs.bindings.of_type.Goals as goal

pub returns-in_default-clause-tree : goal.returns-in_default-clause-tree
returns-in_default-clause-tree c = fails_here OfType 0 (lexemes c.args.pieces.now) c.args.names.now c.args.names.now c.args.from c.args.from (omega arith)
    (opened_none of_type_opens {m = 0} (omega arith) (within c.args.pieces.now c.args.from c.requires.can.within) type_closes c.in_default.ensures.value)

pub returns-in_err-ty-clause-tree : goal.returns-in_err-ty-clause-tree
returns-in_err-ty-clause-tree c = errs _ c.in_err-ty.field-0.0 _ _ c.from_residual.ensures.1
    (fault_on OfType TypeName 0 0 (lexemes c.args.pieces.now) c.args.names.now c.args.names.now _ c.args.from (c.args.from + 1) c.in_err-ty.field-0.0 (omega arith)
    (λ to f. opened_fails of_type_opens (omega arith) (within c.args.pieces.now c.args.from c.requires.can.within) (λ p. refl) _ c.in-Some.ensures.value f) c.in_err-ty.ensures.tree)

pub returns-clause-tree : goal.returns-clause-tree
returns-clause-tree c = reads_on TypeName 0 (c.args.from + 1) (λ g. opened_reads of_type_opens (omega arith) (within c.args.pieces.now c.args.from c.requires.can.within) (λ p. refl) _ c.in-Some.ensures.value g) (part_reads c.in_ok-ty.ensures.tree)

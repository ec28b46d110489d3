use Rattle.std.proofs.Common.{arith}
use Rattle.shade_ast.specs.declared.lexeme.Sign.TheVariants as sign
use Rattle.shade_ast.specs.Lexemes.{Mark}
use Rattle.shade_ast.specs.Statements.{HasValue}
use Rattle.shade_cursor.specs.Shown.{lexemes}
use Rattle.shade_parse_expr.proofs.Turns.{errs}
use Rattle.shade_parse_simple.proofs.Faulty.{fault_at}
use Rattle.shade_parse_simple.proofs.Widens.{part_there}
use Rattle.shade_parse_simple.proofs.Openings.{has_value_opens, opened_later, expression_closes}
use Rattle.shade_parse_simple.proofs.bindings.maybe_value.Goals as goal

pub returns-in_err-value-clause-tree : goal.returns-in_err-value-clause-tree
returns-in_err-value-clause-tree c = errs _ c.in_err-value.field-0.0 _ _ c.from_residual.ensures.1
    (fault_at HasValue 7 (lexemes c.args.pieces.now) c.args.names.now _ c.args.from (Mark sign.Equal) (_, c.in-Some.ensures.value) c.in_err-value.field-0.0
    (λ to f. opened_later has_value_opens (omega arith) expression_closes _ c.in-Some.ensures.value f) c.in_err-value.ensures.tree)

pub returns-clause-tree : goal.returns-clause-tree
returns-clause-tree c = part_there (_, c.in-Some.ensures.value) c.in_ok-value.ensures.went.further c.in_ok-value.ensures.tree

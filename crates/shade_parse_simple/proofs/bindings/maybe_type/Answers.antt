use Rattle.std.proofs.Common.{arith}
use Rattle.shade_ast.specs.declared.lexeme.Sign.TheVariants as sign
use Rattle.shade_ast.specs.Lexemes.{Mark}
use Rattle.shade_ast.specs.Statements.{OfType}
use Rattle.shade_cursor.specs.Shown.{lexemes}
use Rattle.shade_parse_expr.proofs.Turns.{errs}
use Rattle.shade_parse_simple.proofs.Faulty.{fault_at}
use Rattle.shade_parse_simple.proofs.Widens.{part_there}
use Rattle.shade_parse_simple.proofs.Openings.{of_type_opens, opened_later, type_closes}
use Rattle.shade_parse_simple.proofs.bindings.maybe_type.Goals as goal

pub returns-in_err-ty-clause-tree : goal.returns-in_err-ty-clause-tree
returns-in_err-ty-clause-tree c = errs _ c.in_err-ty.field-0.0 _ _ c.from_residual.ensures.1
    (fault_at OfType 0 (lexemes c.args.pieces.now) c.args.names.now _ c.args.from (Mark sign.Colon) (_, c.in-Some.ensures.value) c.in_err-ty.field-0.0
    (λ to f. opened_later of_type_opens (omega arith) type_closes _ c.in-Some.ensures.value f) c.in_err-ty.ensures.tree)

pub returns-clause-tree : goal.returns-clause-tree
returns-clause-tree c = part_there (_, c.in-Some.ensures.value) c.in_ok-ty.ensures.went.further c.in_ok-ty.ensures.tree

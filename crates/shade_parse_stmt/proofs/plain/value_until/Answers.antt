use Rattle.std.proofs.Common.{refl, arith}
use Rattle.std.proofs.lemmas.List.{length-map}
use Rattle.shade_ast.specs.Expressions.{Expression}
use Rattle.shade_parse_stmt.specs.Follows.{Above, Anything}
use Rattle.shade_parse_stmt.specs.StatementParts.{UntilValue}
use Rattle.shade_cursor.specs.declared.part.Fault.TheVariants as fault
use Rattle.shade_cursor.specs.Shown.{lexeme, lexemes}
use Rattle.shade_cursor.proofs.Tokens.{isnt}
use Rattle.shade_parse_stmt.proofs.Handing.{errs, fault_by, ranked, fails_here}
use Rattle.shade_parse_stmt.proofs.Plains.{value_none, value_fails, value_open, value_some}
use Rattle.shade_parse_stmt.proofs.plain.value_until.Goals as goal

pub returns-then-is_mark-clause-tree : goal.returns-then-is_mark-clause-tree
returns-then-is_mark-clause-tree c = value_none (lexemes c.args.pieces.now) c.args.from (omega (arith, length-map c.args.pieces.now lexeme, c.requires.can.within)) c.args.names.now c.args.node (c.if-is_mark.ensures.value.0 refl).0 (c.if-is_mark.ensures.value.0 refl).1

pub returns-in_err-value-clause-tree : goal.returns-in_err-value-clause-tree
returns-in_err-value-clause-tree c = errs _ c.in_err-value.field-0.0 _ _ c.from_residual.ensures.1
    (fault_by UntilValue Expression Anything (Above 7) (lexemes c.args.pieces.now) c.args.names.now c.args.names.now _ c.args.from c.args.from c.in_err-value.field-0.0 (omega arith)
    (λ to x. value_fails (lexemes c.args.pieces.now) c.args.from (omega (arith, length-map c.args.pieces.now lexeme, c.requires.can.within)) (λ p is. isnt c.if-is_mark.ensures.value (p, is))
    to x) (ranked Expression 7 (lexemes c.args.pieces.now) c.args.names.now _ c.args.from c.in_err-value.field-0.0 c.in_err-value.ensures.tree))

pub returns-in_default-clause-tree : goal.returns-in_default-clause-tree
returns-in_default-clause-tree c = errs _ (fault.Unexpected (c.in_ok-value.value.end)) _ _ c.refuse.ensures
    (fails_here UntilValue Anything (lexemes c.args.pieces.now) c.args.names.now _ c.args.from c.in_ok-value.value.end c.in_ok-value.ensures.went.few
    (value_open (lexemes c.args.pieces.now) c.args.from (omega (arith, length-map c.args.pieces.now lexeme, c.requires.can.within)) _ c.args.node c.in_ok-value.value c.in_ok-value.ensures.tree
    (λ p is. isnt c.if-is_mark.ensures.value (p, is)) (λ p is. c.in_default.ensures.value p is)))

pub returns-clause-tree : goal.returns-clause-tree
returns-clause-tree c = value_some (lexemes c.args.pieces.now) c.args.from (omega (arith, length-map c.args.pieces.now lexeme, c.requires.can.within)) _ c.args.node c.in_ok-value.value c.in_ok-value.ensures.tree (λ p is. isnt c.if-is_mark.ensures.value (p, is)) _ c.in-Some.ensures.value

pub returns-clause-went : goal.returns-clause-went
returns-clause-went c = record {
  further = omega (arith, c.in_ok-value.ensures.went.further);
  within = omega (arith, c.in-Some.ensures.within);
  numbered = omega (arith, c.in_ok-value.ensures.went.numbered);
  few = omega (arith, c.in_ok-value.ensures.went.few);
}

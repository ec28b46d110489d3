use Rattle.std.proofs.Common.{arith}
use Rattle.std.proofs.lemmas.List.{length-map}
use Rattle.shade_ast.specs.Expressions.{Expression}
use Rattle.shade_ast.specs.Statements.{Selects}
use Rattle.shade_parse_stmt.specs.Follows.{Above}
use Rattle.shade_cursor.specs.Shown.{lexeme, lexemes}
use Rattle.shade_parse_stmt.proofs.Handing.{errs, fault_by, ranked}
use Rattle.shade_parse_stmt.proofs.SelectorLaws.{default_tree, value_fails, value_tree}
use Rattle.shade_parse_stmt.proofs.plain.selector.Goals as goal

pub returns-in-Some-clause-tree : goal.returns-in-Some-clause-tree
returns-in-Some-clause-tree c = default_tree (lexemes c.args.pieces.now) c.args.from (omega (arith, length-map c.args.pieces.now lexeme, c.requires.can.within)) c.args.names.now c.args.node c.in-Some.place c.in-Some.ensures.value

pub returns-in_err-value-clause-tree : goal.returns-in_err-value-clause-tree
returns-in_err-value-clause-tree c = errs _ c.in_err-value.field-0.0 _ _ c.from_residual.ensures.1
    (fault_by Selects Expression (Above 7) (Above 7) (lexemes c.args.pieces.now) c.args.names.now c.args.names.now _ c.args.from c.args.from c.in_err-value.field-0.0 (omega (arith))
    (λ to x. value_fails (lexemes c.args.pieces.now) c.args.from (omega (arith, length-map c.args.pieces.now lexeme, c.requires.can.within)) (λ p is. c.in_default.ensures.value p is) to x)
    (ranked Expression 7 (lexemes c.args.pieces.now) c.args.names.now _ c.args.from c.in_err-value.field-0.0 c.in_err-value.ensures.tree))

pub returns-clause-tree : goal.returns-clause-tree
returns-clause-tree c = value_tree (lexemes c.args.pieces.now) c.args.from (omega (arith, length-map c.args.pieces.now lexeme, c.requires.can.within)) (λ p is. c.in_default.ensures.value p is) _ c.args.node c.in_ok-value.value c.in_ok-value.ensures.tree

pub returns-clause-went : goal.returns-clause-went
returns-clause-went c = record {
  further = omega (arith, c.in_ok-value.ensures.went.further);
  within = omega (arith, c.in_ok-value.ensures.went.within);
  numbered = omega (arith, c.in_ok-value.ensures.went.numbered);
  few = omega (arith, c.in_ok-value.ensures.went.few);
}

use Rattle.std.proofs.Common.{arith}
use Rattle.std.proofs.lemmas.List.{length-map}
use Rattle.shade_parse_stmt.specs.Follows.{Anything}
use Rattle.shade_parse_stmt.specs.StatementParts.{ValueEnd, Leaves}
use Rattle.shade_cursor.specs.declared.part.Fault.TheVariants as fault
use Rattle.shade_cursor.specs.Shown.{lexeme, lexemes}
use Rattle.shade_parse_stmt.proofs.Handing.{errs, fault_by, fails_here}
use Rattle.shade_parse_stmt.proofs.Plains.{leave_fails, leave_open, leave_tree}
use Rattle.shade_parse_stmt.proofs.plain.leave.Goals as goal

pub returns-in_err-condition-clause-tree : goal.returns-in_err-condition-clause-tree
returns-in_err-condition-clause-tree c = errs _ c.in_err-condition.field-0.0 _ _ c.from_residual.ensures.1
    (fault_by Leaves ValueEnd Anything Anything (lexemes c.args.pieces.now) c.args.names.now c.args.names.now _ c.args.from c.args.from c.in_err-condition.field-0.0 (omega (arith))
    (λ to x. leave_fails (lexemes c.args.pieces.now) c.args.from (omega (arith, length-map c.args.pieces.now lexeme, c.requires.can.within)) to x) c.in_err-condition.ensures.tree)

pub returns-in_default-clause-tree : goal.returns-in_default-clause-tree
returns-in_default-clause-tree c = errs _ (fault.Unexpected (c.in_ok-condition.condition.end)) _ _ c.refuse.ensures
    (fails_here Leaves Anything (lexemes c.args.pieces.now) c.args.names.now _ c.args.from c.in_ok-condition.condition.end (omega (arith, c.in_ok-condition.ensures.went.few))
    (leave_open (lexemes c.args.pieces.now) c.args.from (omega (arith, length-map c.args.pieces.now lexeme, c.requires.can.within)) _ c.args.node c.in_ok-condition.condition
    c.in_ok-condition.ensures.tree (λ p is. c.in_default.ensures.value p is)))

pub returns-clause-tree : goal.returns-clause-tree
returns-clause-tree c = leave_tree (lexemes c.args.pieces.now) c.args.from (omega (arith, length-map c.args.pieces.now lexeme, c.requires.can.within)) _ c.args.node c.in_ok-condition.condition c.in_ok-condition.ensures.tree c.in-Some.end c.in-Some.ensures.value

pub returns-clause-went : goal.returns-clause-went
returns-clause-went c = record {
  further = omega (arith, c.in_ok-condition.ensures.went.further);
  within = omega (arith, c.in-Some.ensures.within);
  numbered = omega (arith, c.in_ok-condition.ensures.node);
  few = omega (arith, c.in_ok-condition.ensures.went.few);
}

use Rattle.std.proofs.Common.{arith}
use Rattle.shade_ast.specs.Expressions.{Expression}
use Rattle.shade_parse.specs.Rests.{AssertRest}
use Rattle.shade_cursor.specs.declared.part.Fault.TheVariants as fault
use Rattle.shade_cursor.specs.Shown.{lexemes}
use Rattle.shade_parse_expr.proofs.Turns.{errs, fault_on, fails_here}
use Rattle.shade_parse_simple.proofs.Faulty.{within}
use Rattle.shade_parse_simple.proofs.Widens.{part_reads}
use Rattle.shade_ast.specs.Shapes.{assert_decl}
use Rattle.shade_ast.proofs.Stages.{begin}
use Rattle.shade_parse.proofs.PlainLaws.{closed_fails, closed_stuck}
use Rattle.shade_parse.proofs.DeclarationTrees.{assert_tree}
use Rattle.shade_parse.proofs.declarations.assertion.Goals as goal

pub returns-in_err-condition-clause-tree : goal.returns-in_err-condition-clause-tree
returns-in_err-condition-clause-tree c = errs _ c.in_err-condition.field-0.0 _ _ c.from_residual.ensures.1
    (fault_on (AssertRest c.args.place) Expression 0 7 (lexemes c.args.pieces.now) c.args.names.now c.args.names.now _ c.args.from c.args.from c.in_err-condition.field-0.0 (omega arith)
    (λ to f. closed_fails Expression (assert_decl c.args.place) (omega arith)
    (begin (AssertRest c.args.place) 0 (lexemes c.args.pieces.now) c.args.from (within c.args.pieces.now c.args.from c.requires.can.within)) f) c.in_err-condition.ensures.tree)

pub returns-in_default-clause-tree : goal.returns-in_default-clause-tree
returns-in_default-clause-tree c = errs _ (fault.Unexpected (c.in_ok-condition.condition.end)) _ _ c.refuse.ensures
    (fails_here (AssertRest c.args.place) 0 (lexemes c.args.pieces.now) c.args.names.now c.expression.new.names c.args.from c.in_ok-condition.condition.end
    (omega (arith, c.in_ok-condition.ensures.went.few))
    (closed_stuck Expression (assert_decl c.args.place) (omega arith)
    (begin (AssertRest c.args.place) 0 (lexemes c.args.pieces.now) c.args.from (within c.args.pieces.now c.args.from c.requires.can.within)) c.in_ok-condition.ensures.tree.reads
    c.in_default.ensures.value))

pub returns-clause-tree : goal.returns-clause-tree
returns-clause-tree c = assert_tree (within c.args.pieces.now c.args.from c.requires.can.within) (part_reads c.in_ok-condition.ensures.tree) c.in-Some.ensures.value

pub returns-clause-went : goal.returns-clause-went
returns-clause-went c = record {
  further = omega (arith, c.in_ok-condition.ensures.went.further);
  within = omega (arith, c.in-Some.ensures.within);
  numbered = omega (arith, c.in_ok-condition.ensures.went.numbered);
  few = omega (arith, c.in_ok-condition.ensures.went.few);
}

use Rattle.std.proofs.Common.{refl, arith}
use Rattle.shade_ast.specs.Expressions.{Call}
use Rattle.shade_ast.specs.Statements.{UpdateOf}
use Rattle.shade_cursor.specs.Shown.{lexemes}
use Rattle.shade_parse_expr.proofs.Turns.{errs, fault_on}
use Rattle.shade_parse_simple.proofs.Faulty.{within}
use Rattle.shade_parse_simple.proofs.UpdateLaws.{alone_fails}
use Rattle.shade_parse_simple.proofs.UpdateTrees.{call_tree}
use Rattle.shade_parse_simple.proofs.Widens.{part_reads}
use Rattle.shade_parse_simple.proofs.updates.update.Goals as goal

pub returns-in_err-callee-clause-tree : goal.returns-in_err-callee-clause-tree
returns-in_err-callee-clause-tree c = errs _ c.in_err-callee.field-0.0 _ _ c.from_residual.ensures.1
    (fault_on UpdateOf Call 7 1 (lexemes c.args.pieces.now) c.args.names.now c.args.names.now _ c.args.from c.args.from c.in_err-callee.field-0.0 (omega arith)
    (λ to f. alone_fails (within c.args.pieces.now c.args.from c.requires.can.within) (c.if-not-begins_call.ensures.0 refl) f) c.in_err-callee.ensures.tree)

pub returns-clause-tree : goal.returns-clause-tree
returns-clause-tree c = call_tree (within c.args.pieces.now c.args.from c.requires.can.within) (c.if-not-begins_call.ensures.0 refl) c.in_ok-callee.ensures.went.further (part_reads c.in_ok-callee.ensures.tree)

pub returns-clause-went : goal.returns-clause-went
returns-clause-went c = record {
  further = omega (arith, c.in_ok-callee.ensures.went.further);
  within = omega (arith, c.in_ok-callee.ensures.went.within);
  numbered = omega (arith, c.in_ok-callee.ensures.went.numbered);
  few = omega (arith, c.in_ok-callee.ensures.went.few);
}

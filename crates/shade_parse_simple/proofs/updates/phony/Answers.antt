use Rattle.std.proofs.Common.{◌+◌, arith}
use Rattle.shade_ast.specs.Expressions.{Expression}
use Rattle.shade_ast.specs.Statements.{UpdateOf}
use Rattle.shade_cursor.specs.Shown.{lexemes}
use Rattle.shade_parse_expr.proofs.Turns.{errs, fault_on, fails_here}
use Rattle.shade_parse_simple.proofs.Faulty.{within}
use Rattle.shade_parse_simple.proofs.UpdateLaws.{drops_stuck, drops_fails}
use Rattle.shade_parse_simple.proofs.UpdateTrees.{phony_tree}
use Rattle.shade_parse_simple.proofs.Widens.{part_reads}
use Rattle.shade_parse_simple.proofs.updates.phony.Goals as goal

pub returns-in_default-clause-tree : goal.returns-in_default-clause-tree
returns-in_default-clause-tree c = fails_here UpdateOf 7 (lexemes c.args.pieces.now) c.args.names.now c.args.names.now c.args.from (c.args.from + 1) (omega arith) (drops_stuck (within c.args.pieces.now c.args.from c.requires.can.within) c.args.underscore c.requires.stands c.in_default.ensures.value)

pub returns-in_err-value-clause-tree : goal.returns-in_err-value-clause-tree
returns-in_err-value-clause-tree c = errs _ c.in_err-value.field-0.0 _ _ c.from_residual.ensures.1
    (fault_on UpdateOf Expression 7 7 (lexemes c.args.pieces.now) c.args.names.now c.args.names.now _ c.args.from (c.args.from + 2) c.in_err-value.field-0.0 (omega arith)
    (λ to f. drops_fails (within c.args.pieces.now c.args.from c.requires.can.within) c.args.underscore c.requires.stands _ c.in-Some.ensures.value f) c.in_err-value.ensures.tree)

pub returns-clause-tree : goal.returns-clause-tree
returns-clause-tree c = phony_tree (within c.args.pieces.now c.args.from c.requires.can.within) c.requires.stands c.in-Some.ensures.value (part_reads c.in_ok-value.ensures.tree)

pub returns-clause-went : goal.returns-clause-went
returns-clause-went c = record {
  further = omega (arith, c.in_ok-value.ensures.went.further);
  within = omega (arith, c.in_ok-value.ensures.went.within);
  numbered = omega (arith, c.in_ok-value.ensures.went.numbered);
  few = omega (arith, c.in_ok-value.ensures.went.few);
}

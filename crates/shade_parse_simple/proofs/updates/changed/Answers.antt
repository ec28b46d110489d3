use Rattle.std.proofs.Common.{arith}
use Rattle.shade_ast.specs.Expressions.{Expression, LeftSide}
use Rattle.shade_ast.specs.Statements.{UpdateOf}
use Rattle.shade_ast.proofs.ShapeLaws.{grows_trans}
use Rattle.shade_cursor.specs.Shown.{lexemes}
use Rattle.shade_parse_expr.proofs.Turns.{errs, fault_on}
use Rattle.shade_parse_simple.specs.Updates.{Assigning}
use Rattle.shade_parse_simple.proofs.Faulty.{within, fault_plain}
use Rattle.shade_parse_simple.proofs.UpdateLaws.{left_fails, sign_fails, value_fails}
use Rattle.shade_parse_simple.proofs.UpdateTrees.{up_tree, down_tree, set_tree}
use Rattle.shade_parse_simple.proofs.Widens.{widen, expr_keeps, part_reads}
use Rattle.shade_parse_simple.proofs.updates.changed.Goals as goal

pub returns-in_err-target-clause-tree : goal.returns-in_err-target-clause-tree
returns-in_err-target-clause-tree c = errs _ c.in_err-target.field-0.0 _ _ c.from_residual.ensures.1
    (fault_on UpdateOf LeftSide 7 2 (lexemes c.args.pieces.now) c.args.names.now c.args.names.now _ c.args.from c.args.from c.in_err-target.field-0.0 (omega arith)
    (λ to f. left_fails (within c.args.pieces.now c.args.from c.requires.can.within) c.requires.other f) c.in_err-target.ensures.tree)

pub returns-in-Some-clause-tree : goal.returns-in-Some-clause-tree
returns-in-Some-clause-tree c = up_tree (within c.args.pieces.now c.args.from c.requires.can.within) c.requires.other (part_reads c.in_ok-target.ensures.tree) c.in_ok-target.ensures.went.further c.in-Some.ensures.value

pub returns-in-Some-mark_at-clause-tree : goal.returns-in-Some-mark_at-clause-tree
returns-in-Some-mark_at-clause-tree c = down_tree (within c.args.pieces.now c.args.from c.requires.can.within) c.requires.other (part_reads c.in_ok-target.ensures.tree) c.in_ok-target.ensures.went.further c.in_default.ensures.value c.in-Some-mark_at.ensures.value

pub returns-in-Err-clause-tree : goal.returns-in-Err-clause-tree
returns-in-Err-clause-tree c = errs _ c.in-Err.fault _ _ c.refuse.ensures
    (fault_plain UpdateOf Assigning 7 0 (lexemes c.args.pieces.now) c.args.names.now _ c.args.from c.in_ok-target.target.end c.in-Err.fault (omega (arith, c.in_ok-target.ensures.went.few))
    (within c.args.pieces.now c.in_ok-target.target.end c.in_ok-target.ensures.went.within)
    (λ to f. sign_fails (within c.args.pieces.now c.args.from c.requires.can.within) c.requires.other c.in_ok-target.ensures.tree.reads c.in_ok-target.ensures.went.further
    c.in_default.ensures.value c.in_default-mark_at.ensures.value f) c.in-Err.ensures.sign)

pub returns-in-Err-expression-clause-tree : goal.returns-in-Err-expression-clause-tree
returns-in-Err-expression-clause-tree c = errs _ c.in-Err-expression.fault _ _ c.refuse-in-Err-expression.ensures
    (fault_on UpdateOf Expression 7 7 (lexemes c.args.pieces.now) c.args.names.now c.left_side.new.names _ c.args.from c.in-Ok.found.2 c.in-Err-expression.fault
    (omega (arith, c.in_ok-target.ensures.went.few, c.in-Ok.ensures.further))
    (λ to f. value_fails (within c.args.pieces.now c.args.from c.requires.can.within) c.requires.other c.in_ok-target.ensures.tree.reads c.in_ok-target.ensures.went.further
    c.in_default.ensures.value c.in_default-mark_at.ensures.value c.in-Ok.ensures.sign f) c.in-Err-expression.ensures.tree)

pub returns-clause-tree : goal.returns-clause-tree
returns-clause-tree c = set_tree (within c.args.pieces.now c.args.from c.requires.can.within) c.requires.other
    (widen expr_keeps c.in-Ok-expression.ensures.grows (part_reads c.in_ok-target.ensures.tree)) c.in_ok-target.ensures.went.further c.in_default.ensures.value c.in_default-mark_at.ensures.value
    c.in-Ok.ensures.sign (part_reads c.in-Ok-expression.ensures.tree) c.assigned.ensures

pub returns-in-Some-clause-went : goal.returns-in-Some-clause-went
returns-in-Some-clause-went c = record {
  further = omega (arith, c.in_ok-target.ensures.went.further);
  within = omega (arith, c.in-Some.ensures.within);
  numbered = omega (arith, c.in_ok-target.ensures.went.numbered);
  few = omega (arith, c.in_ok-target.ensures.went.few);
}

pub returns-in-Some-mark_at-clause-went : goal.returns-in-Some-mark_at-clause-went
returns-in-Some-mark_at-clause-went c = record {
  further = omega (arith, c.in_ok-target.ensures.went.further);
  within = omega (arith, c.in-Some-mark_at.ensures.within);
  numbered = omega (arith, c.in_ok-target.ensures.went.numbered);
  few = omega (arith, c.in_ok-target.ensures.went.few);
}

pub assigning-requires : goal.assigning-requires
assigning-requires c = omega (arith, c.in_ok-target.ensures.went.within)

pub expression-requires : goal.expression-requires
expression-requires c = record {
  can = record {
    within = omega (arith, c.in-Ok.ensures.further, c.in-Ok.ensures.within);
    numbered = omega (arith, c.in_ok-target.ensures.went.numbered, c.in-Ok.ensures.further, c.in-Ok.ensures.within);
    few = omega (arith, c.in_ok-target.ensures.went.few, c.in-Ok.ensures.further, c.in-Ok.ensures.within);
  };
}

pub returns-in-Err-expression-clause-grows : goal.returns-in-Err-expression-clause-grows
returns-in-Err-expression-clause-grows c = grows_trans _ _ _ c.in_ok-target.ensures.grows c.in-Err-expression.ensures.grows

pub returns-clause-grows : goal.returns-clause-grows
returns-clause-grows c = grows_trans _ _ _ c.in_ok-target.ensures.grows c.in-Ok-expression.ensures.grows

pub returns-clause-went : goal.returns-clause-went
returns-clause-went c = record {
  further = omega (arith, c.in_ok-target.ensures.went.further, c.in-Ok.ensures.further, c.in-Ok.ensures.within, c.in-Ok-expression.ensures.went.further);
  within = omega (arith, c.in-Ok.ensures.further, c.in-Ok-expression.ensures.went.within);
  numbered = omega (arith, c.in_ok-target.ensures.went.numbered, c.in-Ok.ensures.further, c.in-Ok.ensures.within, c.in-Ok-expression.ensures.went.numbered);
  few = omega (arith, c.in_ok-target.ensures.went.few, c.in-Ok.ensures.further, c.in-Ok.ensures.within, c.in-Ok-expression.ensures.went.few);
}

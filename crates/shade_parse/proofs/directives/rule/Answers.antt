use Rattle.std.proofs.Common.{◌+◌, arith}
use Rattle.shade_ast.specs.Statements.{Name}
use Rattle.shade_ast.specs.Declarations.{RuleOf}
use Rattle.shade_ast.proofs.ShapeLaws.{grows_trans}
use Rattle.shade_cursor.specs.Shown.{lexemes}
use Rattle.shade_parse_expr.proofs.Turns.{errs, fault_on}
use Rattle.shade_parse_simple.proofs.Faulty.{within}
use Rattle.shade_parse_simple.proofs.Widens.{widen, named_keeps}
use Rattle.shade_parse.proofs.DirectiveLaws.{rule_name_fails, rule_second_fails}
use Rattle.shade_parse.proofs.DirectiveTrees.{plain_tree, scoped_tree}
use Rattle.shade_parse.proofs.directives.rule.Goals as goal

pub returns-in_err-first-clause-tree : goal.returns-in_err-first-clause-tree
returns-in_err-first-clause-tree c = errs _ c.in_err-first.field-0.0 _ _ c.from_residual.ensures.1
    (fault_on RuleOf Name 2 0 (lexemes c.args.pieces.now) c.args.names.now c.args.names.now _ c.args.from c.args.from c.in_err-first.field-0.0 (omega arith)
    (λ to f. rule_name_fails (within c.args.pieces.now c.args.from c.requires.can.within) f) c.in_err-first.ensures.tree)

pub returns-in_default-clause-tree : goal.returns-in_default-clause-tree
returns-in_default-clause-tree c = plain_tree (within c.args.pieces.now c.args.from c.requires.can.within) c.in_ok-first.ensures.tree c.in_default.ensures.value

pub returns-in_err-name-clause-tree : goal.returns-in_err-name-clause-tree
returns-in_err-name-clause-tree c = errs _ c.in_err-name.field-0.0 _ _ c.from_residual-in_err-name.ensures.1
    (fault_on RuleOf Name 2 0 (lexemes c.args.pieces.now) c.args.names.now c.name.new.names _ c.args.from (c.in_ok-first.first.end + 1) c.in_err-name.field-0.0
    (omega (arith, c.in_ok-first.ensures.went.few))
    (λ to f. rule_second_fails (within c.args.pieces.now c.args.from c.requires.can.within) c.in_ok-first.ensures.tree.reads _ c.in-Some.ensures.value f) c.in_err-name.ensures.tree)

pub returns-clause-tree : goal.returns-clause-tree
returns-clause-tree c = scoped_tree (within c.args.pieces.now c.args.from c.requires.can.within) (widen named_keeps c.in_ok-name.ensures.grows c.in_ok-first.ensures.tree) c.in-Some.ensures.value c.in_ok-name.ensures.tree

pub returns-in_default-clause-went : goal.returns-in_default-clause-went
returns-in_default-clause-went c = record {
  further = omega (arith, c.in_ok-first.ensures.went.further);
  within = omega (arith, c.in_ok-first.ensures.went.within);
  numbered = omega (arith, c.in_ok-first.ensures.went.numbered);
  few = omega (arith, c.in_ok-first.ensures.went.few);
}

pub returns-in_err-name-clause-grows : goal.returns-in_err-name-clause-grows
returns-in_err-name-clause-grows c = grows_trans _ _ _ c.in_ok-first.ensures.grows c.in_err-name.ensures.grows

pub returns-clause-grows : goal.returns-clause-grows
returns-clause-grows c = grows_trans _ _ _ c.in_ok-first.ensures.grows c.in_ok-name.ensures.grows

pub returns-clause-went : goal.returns-clause-went
returns-clause-went c = record {
  further = omega (arith, c.in_ok-first.ensures.went.further, c.in_ok-name.ensures.went.further);
  within = omega (arith, c.in_ok-name.ensures.went.within);
  numbered = omega (arith, c.in_ok-first.ensures.went.numbered, c.in_ok-name.ensures.went.numbered);
  few = omega (arith, c.in_ok-first.ensures.went.few, c.in_ok-name.ensures.went.few);
}

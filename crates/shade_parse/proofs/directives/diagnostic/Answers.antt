use Rattle.std.proofs.Common.{◌+◌, arith}
use Rattle.shade_ast.specs.declared.lexeme.Sign.TheVariants as sign
use Rattle.shade_ast.specs.Statements.{Name}
use Rattle.shade_ast.specs.Declarations.{RuleOf}
use Rattle.shade_parse_simple.specs.Rests.{Ending}
use Rattle.shade_parse.specs.Rests.{DiagnosticRest}
use Rattle.shade_ast.proofs.ShapeLaws.{grows_trans}
use Rattle.shade_cursor.specs.Shown.{lexemes}
use Rattle.shade_parse_expr.proofs.Turns.{errs, fault_on, fails_here}
use Rattle.shade_parse_simple.proofs.Faulty.{within, fault_plain}
use Rattle.shade_parse_simple.proofs.Widens.{widen, named_keeps}
use Rattle.shade_parse.proofs.DirectiveLaws.{diagnostic_open, diagnostic_name_fails, diagnostic_comma, diagnostic_rule_fails, diagnostic_ending_fails, diagnostic_stuck}
use Rattle.shade_parse.proofs.DirectiveTrees.{diagnostic_tree}
use Rattle.shade_parse.proofs.directives.diagnostic.Goals as goal

pub returns-in_default-clause-tree : goal.returns-in_default-clause-tree
returns-in_default-clause-tree c = fails_here (DiagnosticRest c.args.place) 0 (lexemes c.args.pieces.now) c.args.names.now c.args.names.now c.args.from c.args.from (omega arith) (diagnostic_open c.args.place (within c.args.pieces.now c.args.from c.requires.can.within) c.in_default.ensures.value)

pub returns-in_err-severity-clause-tree : goal.returns-in_err-severity-clause-tree
returns-in_err-severity-clause-tree c = errs _ c.in_err-severity.field-0.0 _ _ c.from_residual.ensures.1
    (fault_on (DiagnosticRest c.args.place) Name 0 0 (lexemes c.args.pieces.now) c.args.names.now c.args.names.now _ c.args.from (c.args.from + 1) c.in_err-severity.field-0.0 (omega arith)
    (λ to f. diagnostic_name_fails c.args.place (within c.args.pieces.now c.args.from c.requires.can.within) _ c.in-Some.ensures.value f) c.in_err-severity.ensures.tree)

pub returns-in_default-mark_at-clause-tree : goal.returns-in_default-mark_at-clause-tree
returns-in_default-mark_at-clause-tree c = fails_here (DiagnosticRest c.args.place) 0 (lexemes c.args.pieces.now) c.args.names.now c.name.new.names c.args.from c.in_ok-severity.severity.end
    (omega (arith, c.in_ok-severity.ensures.went.few))
    (diagnostic_comma c.args.place (within c.args.pieces.now c.args.from c.requires.can.within) _ c.in-Some.ensures.value c.in_ok-severity.ensures.tree.reads c.in_default-mark_at.ensures.value)

pub returns-in_err-rule-clause-tree : goal.returns-in_err-rule-clause-tree
returns-in_err-rule-clause-tree c = errs _ c.in_err-rule.field-0.0 _ _ c.from_residual-in_err-rule.ensures.1
    (fault_on (DiagnosticRest c.args.place) RuleOf 0 2 (lexemes c.args.pieces.now) c.args.names.now c.name.new.names _ c.args.from (c.in_ok-severity.severity.end + 1) c.in_err-rule.field-0.0
    (omega (arith, c.in_ok-severity.ensures.went.few))
    (λ to f. diagnostic_rule_fails c.args.place (within c.args.pieces.now c.args.from c.requires.can.within) _ c.in-Some.ensures.value c.in_ok-severity.ensures.tree.reads _
    c.in-Some-mark_at.ensures.value f) c.in_err-rule.ensures.tree)

pub returns-in_err-trailing-clause-tree : goal.returns-in_err-trailing-clause-tree
returns-in_err-trailing-clause-tree c = errs _ c.in_err-trailing.field-0.0 _ _ c.from_residual-in_err-trailing.ensures.1
    (fault_plain (DiagnosticRest c.args.place) (Ending sign.Close) 0 0 (lexemes c.args.pieces.now) c.args.names.now _ c.args.from c.in_ok-rule.rule.end c.in_err-trailing.field-0.0
    (omega (arith, c.in_ok-severity.ensures.went.few, c.in_ok-rule.ensures.went.few)) (within c.args.pieces.now c.in_ok-rule.rule.end c.in_ok-rule.ensures.went.within)
    (λ to f. diagnostic_ending_fails c.args.place (within c.args.pieces.now c.args.from c.requires.can.within) _ c.in-Some.ensures.value c.in_ok-severity.ensures.tree.reads _
    c.in-Some-mark_at.ensures.value c.in_ok-rule.ensures.tree.reads f) c.in_err-trailing.ensures.tree)

pub returns-in_default-mark_at-2-clause-tree : goal.returns-in_default-mark_at-2-clause-tree
returns-in_default-mark_at-2-clause-tree c = fails_here (DiagnosticRest c.args.place) 0 (lexemes c.args.pieces.now) c.args.names.now c.rule.new.names c.args.from c.in_ok-trailing.end
    (omega (arith, c.in_ok-severity.ensures.went.few, c.in_ok-rule.ensures.went.few, c.in_ok-trailing.ensures.further))
    (diagnostic_stuck c.args.place (within c.args.pieces.now c.args.from c.requires.can.within) _ c.in-Some.ensures.value c.in_ok-severity.ensures.tree.reads _ c.in-Some-mark_at.ensures.value
    c.in_ok-rule.ensures.tree.reads c.in_ok-trailing.ensures.tree c.in_default-mark_at-2.ensures.value)

pub returns-clause-tree : goal.returns-clause-tree
returns-clause-tree c = diagnostic_tree (within c.args.pieces.now c.args.from c.requires.can.within) c.in-Some.ensures.value
    (widen named_keeps c.in_ok-rule.ensures.grows c.in_ok-severity.ensures.tree) c.in-Some-mark_at.ensures.value c.in_ok-rule.ensures.tree c.in_ok-trailing.ensures.tree
    c.in-Some-mark_at-2.ensures.value

pub rule-requires : goal.rule-requires
rule-requires c = record {
  can = record {
    within = omega (arith, c.in-Some-mark_at.ensures.within);
    numbered = omega (arith, c.in_ok-severity.ensures.went.numbered);
    few = omega (arith, c.in_ok-severity.ensures.went.few);
  };
}

pub returns-in_err-rule-clause-grows : goal.returns-in_err-rule-clause-grows
returns-in_err-rule-clause-grows c = grows_trans _ _ _ c.in_ok-severity.ensures.grows c.in_err-rule.ensures.grows

pub closed-requires-clause-within : goal.closed-requires-clause-within
closed-requires-clause-within c = omega (arith, c.in_ok-rule.ensures.went.within)

pub returns-in_err-trailing-clause-grows : goal.returns-in_err-trailing-clause-grows
returns-in_err-trailing-clause-grows c = grows_trans _ _ _ c.in_ok-severity.ensures.grows c.in_ok-rule.ensures.grows

pub returns-in_default-mark_at-2-clause-grows : goal.returns-in_default-mark_at-2-clause-grows
returns-in_default-mark_at-2-clause-grows c = grows_trans _ _ _ c.in_ok-severity.ensures.grows c.in_ok-rule.ensures.grows

pub returns-clause-grows : goal.returns-clause-grows
returns-clause-grows c = grows_trans _ _ _ c.in_ok-severity.ensures.grows c.in_ok-rule.ensures.grows

pub returns-clause-went : goal.returns-clause-went
returns-clause-went c = record {
  further = omega (arith, c.in_ok-severity.ensures.went.further, c.in_ok-rule.ensures.went.further, c.in_ok-trailing.ensures.further, c.in_ok-trailing.ensures.within);
  within = omega (arith, c.in_ok-trailing.ensures.further, c.in-Some-mark_at-2.ensures.within);
  numbered = omega (arith, c.in_ok-severity.ensures.went.numbered, c.in_ok-rule.ensures.went.numbered, c.in_ok-trailing.ensures.further, c.in_ok-trailing.ensures.within);
  few = omega (arith, c.in_ok-severity.ensures.went.few, c.in_ok-rule.ensures.went.few, c.in_ok-trailing.ensures.further, c.in_ok-trailing.ensures.within);
}

use Rattle.std.proofs.Common.{sym, ◌+◌, arith}
use Rattle.shade_ast.specs.Statements.{SimpleStatement, UpdateOf, Var}
use Rattle.shade_cursor.specs.Shown.{lexemes}
use Rattle.shade_cursor.proofs.Tokens.{told_none, told_some}
use Rattle.shade_parse_expr.proofs.Turns.{errs, fault_on}
use Rattle.shade_parse_simple.specs.Rests.{Bound}
use Rattle.shade_parse_simple.proofs.Faulty.{within}
use Rattle.shade_parse_simple.proofs.SimpleLaws.{by_var_fails, by_const_fails, by_let_fails, by_update_fails}
use Rattle.shade_parse_simple.proofs.SimpleTrees.{variable_tree, constant_tree, value_tree, update_tree}
use Rattle.shade_parse_simple.proofs.updates.simple.Goals as goal

pub returns-in_err-variable-clause-tree : goal.returns-in_err-variable-clause-tree
returns-in_err-variable-clause-tree c = errs _ c.in_err-variable.field-0.0 _ _ c.from_residual.ensures.1
    (fault_on SimpleStatement Var 8 8 (lexemes c.args.pieces.now) c.args.names.now c.args.names.now _ c.args.from c.args.from c.in_err-variable.field-0.0 (omega arith)
    (λ to f. by_var_fails (told_some _ _ _ (sym c.if-is_some.ensures) c.key_at.ensures.value) f) c.in_err-variable.ensures.tree)

pub returns-then-is_some-clause-tree : goal.returns-then-is_some-clause-tree
returns-then-is_some-clause-tree c = variable_tree (told_some _ _ _ (sym c.if-is_some.ensures) c.key_at.ensures.value) c.in_ok-variable.ensures.tree

pub returns-in_err-constant-clause-tree : goal.returns-in_err-constant-clause-tree
returns-in_err-constant-clause-tree c = errs _ c.in_err-constant.field-0.0 _ _ c.from_residual-in_err-constant.ensures.1
    (fault_on SimpleStatement (Bound c.in-Some.keyword) 8 7 (lexemes c.args.pieces.now) c.args.names.now c.args.names.now _ c.args.from (c.args.from + 1) c.in_err-constant.field-0.0
    (omega arith) (λ to f. by_const_fails (within c.args.pieces.now c.args.from c.requires.can.within) _ c.in-Some.ensures.value f) c.in_err-constant.ensures.tree)

pub returns-in-Some-clause-tree : goal.returns-in-Some-clause-tree
returns-in-Some-clause-tree c = constant_tree (within c.args.pieces.now c.args.from c.requires.can.within) c.in-Some.ensures.value c.in_ok-constant.ensures.tree

pub returns-in_err-value-clause-tree : goal.returns-in_err-value-clause-tree
returns-in_err-value-clause-tree c = errs _ c.in_err-value.field-0.0 _ _ c.from_residual-in_err-value.ensures.1
    (fault_on SimpleStatement (Bound c.in-Some-key_at.keyword) 8 7 (lexemes c.args.pieces.now) c.args.names.now c.args.names.now _ c.args.from (c.args.from + 1) c.in_err-value.field-0.0
    (omega arith) (λ to f. by_let_fails (within c.args.pieces.now c.args.from c.requires.can.within) _ c.in-Some-key_at.ensures.value f) c.in_err-value.ensures.tree)

pub returns-in-Some-key_at-clause-tree : goal.returns-in-Some-key_at-clause-tree
returns-in-Some-key_at-clause-tree c = value_tree (within c.args.pieces.now c.args.from c.requires.can.within) c.in-Some-key_at.ensures.value c.in_ok-value.ensures.tree

pub returns-in_err-changed-clause-tree : goal.returns-in_err-changed-clause-tree
returns-in_err-changed-clause-tree c = errs _ c.in_err-changed.field-0.0 _ _ c.from_residual-in_err-changed.ensures.1
    (fault_on SimpleStatement UpdateOf 8 7 (lexemes c.args.pieces.now) c.args.names.now c.args.names.now _ c.args.from c.args.from c.in_err-changed.field-0.0 (omega arith)
    (λ to f. by_update_fails (λ s. told_none _ _ _ (sym c.if-is_some.ensures) c.key_at.ensures.value s.0 s.1) (λ s. c.in_default.ensures.value s.0 s.1)
    (λ s. c.in_default-key_at.ensures.value s.0 s.1) f) c.in_err-changed.ensures.tree)

pub returns-clause-tree : goal.returns-clause-tree
returns-clause-tree c = update_tree (λ s. told_none _ _ _ (sym c.if-is_some.ensures) c.key_at.ensures.value s.0 s.1) (λ s. c.in_default.ensures.value s.0 s.1) (λ s. c.in_default-key_at.ensures.value s.0 s.1) c.in_ok-changed.ensures.tree

pub returns-then-is_some-clause-went : goal.returns-then-is_some-clause-went
returns-then-is_some-clause-went c = record {
  further = omega (arith, c.in_ok-variable.ensures.went.further);
  within = omega (arith, c.in_ok-variable.ensures.went.within);
  numbered = omega (arith, c.in_ok-variable.ensures.went.numbered);
  few = omega (arith, c.in_ok-variable.ensures.went.few);
}

pub returns-in-Some-clause-went : goal.returns-in-Some-clause-went
returns-in-Some-clause-went c = record {
  further = omega (arith, c.in_ok-constant.ensures.went.further);
  within = omega (arith, c.in_ok-constant.ensures.went.within);
  numbered = omega (arith, c.in_ok-constant.ensures.went.numbered);
  few = omega (arith, c.in_ok-constant.ensures.went.few);
}

pub returns-in-Some-key_at-clause-went : goal.returns-in-Some-key_at-clause-went
returns-in-Some-key_at-clause-went c = record {
  further = omega (arith, c.in_ok-value.ensures.went.further);
  within = omega (arith, c.in_ok-value.ensures.went.within);
  numbered = omega (arith, c.in_ok-value.ensures.went.numbered);
  few = omega (arith, c.in_ok-value.ensures.went.few);
}

pub returns-clause-went : goal.returns-clause-went
returns-clause-went c = record {
  further = omega (arith, c.in_ok-changed.ensures.went.further);
  within = omega (arith, c.in_ok-changed.ensures.went.within);
  numbered = omega (arith, c.in_ok-changed.ensures.went.numbered);
  few = omega (arith, c.in_ok-changed.ensures.went.few);
}

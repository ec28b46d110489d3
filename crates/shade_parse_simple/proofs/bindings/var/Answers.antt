use Rattle.std.proofs.Common.{◌+◌, arith}
use Rattle.shade_ast.specs.declared.lexeme.Sign.TheVariants as sign
use Rattle.shade_ast.specs.Lexemes.{Mark}
use Rattle.shade_ast.specs.Statements.{Name, OfType, HasValue, VarSpace, Var}
use Rattle.shade_ast.proofs.ShapeLaws.{grows_trans}
use Rattle.shade_cursor.specs.Shown.{lexemes}
use Rattle.shade_parse_expr.proofs.Turns.{errs, fault_on, fails_here}
use Rattle.shade_parse_simple.proofs.Faulty.{within, fault_of}
use Rattle.shade_parse_simple.proofs.Widens.{widen, widen_maybe, named_keeps, expr_keeps}
use Rattle.shade_parse_simple.proofs.BindingTrees.{var_space_keeps, var_tree}
use Rattle.shade_parse_simple.proofs.BindingLaws.{var_none, var_space_fails, var_name_fails, var_type_fails, var_value_fails}
use Rattle.shade_parse_simple.proofs.bindings.var.Goals as goal

pub returns-in_default-clause-tree : goal.returns-in_default-clause-tree
returns-in_default-clause-tree c = fails_here Var 8 (lexemes c.args.pieces.now) c.args.names.now c.args.names.now c.args.from c.args.from (omega arith) (var_none (within c.args.pieces.now c.args.from c.requires.can.within) c.in_default.ensures.value)

pub returns-in_err-space-clause-tree : goal.returns-in_err-space-clause-tree
returns-in_err-space-clause-tree c = errs _ c.in_err-space.field-0.0 _ _ c.from_residual.ensures.1
    (fault_of Var VarSpace 8 0 (lexemes c.args.pieces.now) c.args.names.now c.args.names.now _ c.args.from (c.args.from + 1) (omega arith) (Mark sign.OpenTemplate) c.in_err-space.field-0.0
    (λ to t lt f. var_space_fails (within c.args.pieces.now c.args.from c.requires.can.within) _ c.in-Some.ensures.value t lt f) c.in_err-space.ensures.tree)

pub returns-in_err-name-clause-tree : goal.returns-in_err-name-clause-tree
returns-in_err-name-clause-tree c = errs _ c.in_err-name.field-0.0 _ _ c.from_residual-in_err-name.ensures.1
    (fault_on Var Name 8 0 (lexemes c.args.pieces.now) c.args.names.now c.maybe_space.new.names _ c.args.from c.in_ok-space.space.end c.in_err-name.field-0.0
    (omega (arith, c.in_ok-space.ensures.went.few))
    (λ to f. var_name_fails (within c.args.pieces.now c.args.from c.requires.can.within) _ c.in-Some.ensures.value _ _ c.in_ok-space.ensures.tree.reads f) c.in_err-name.ensures.tree)

pub returns-in_err-ty-clause-tree : goal.returns-in_err-ty-clause-tree
returns-in_err-ty-clause-tree c = errs _ c.in_err-ty.field-0.0 _ _ c.from_residual-in_err-ty.ensures.1
    (fault_of Var OfType 8 0 (lexemes c.args.pieces.now) c.args.names.now c.name.new.names _ c.args.from c.in_ok-name.name.end
    (omega (arith, c.in_ok-space.ensures.went.few, c.in_ok-name.ensures.went.few)) (Mark sign.Colon) c.in_err-ty.field-0.0
    (λ to t lt f. var_type_fails (within c.args.pieces.now c.args.from c.requires.can.within) _ c.in-Some.ensures.value _ _ c.in_ok-space.ensures.tree.reads c.in_ok-name.ensures.tree.reads t
    lt f) c.in_err-ty.ensures.tree)

pub returns-in-Err-clause-tree : goal.returns-in-Err-clause-tree
returns-in-Err-clause-tree c = errs _ c.in-Err.fault _ _ c.refuse.ensures
    (fault_of Var HasValue 8 7 (lexemes c.args.pieces.now) c.args.names.now c.maybe_type.new.names _ c.args.from c.in_ok-ty.ty.end
    (omega (arith, c.in_ok-space.ensures.went.few, c.in_ok-name.ensures.went.few, c.in_ok-ty.ensures.went.few)) (Mark sign.Equal) c.in-Err.fault
    (λ to t lt f. var_value_fails (within c.args.pieces.now c.args.from c.requires.can.within) _ c.in-Some.ensures.value _ _ c.in_ok-space.ensures.tree.reads c.in_ok-name.ensures.tree.reads _
    _ c.in_ok-ty.ensures.tree.reads t lt f) c.in-Err.ensures.tree)

pub returns-clause-tree : goal.returns-clause-tree
returns-clause-tree c = var_tree (within c.args.pieces.now c.args.from c.requires.can.within) c.in-Some.ensures.value
    (widen_maybe var_space_keeps (grows_trans _ _ _ c.in_ok-name.ensures.grows (grows_trans _ _ _ c.in_ok-ty.ensures.grows c.in-Ok.ensures.grows)) c.in_ok-space.ensures.tree)
    (widen named_keeps (grows_trans _ _ _ c.in_ok-ty.ensures.grows c.in-Ok.ensures.grows) c.in_ok-name.ensures.tree) (widen_maybe expr_keeps c.in-Ok.ensures.grows c.in_ok-ty.ensures.tree)
    c.in-Ok.ensures.tree

pub name-requires : goal.name-requires
name-requires c = record {
  can = record {
    within = omega (arith, c.in_ok-space.ensures.went.within);
    numbered = omega (arith, c.in_ok-space.ensures.went.numbered);
    few = omega (arith, c.in_ok-space.ensures.went.few);
  };
}

pub returns-in_err-name-clause-grows : goal.returns-in_err-name-clause-grows
returns-in_err-name-clause-grows c = grows_trans _ _ _ c.in_ok-space.ensures.grows c.in_err-name.ensures.grows

pub maybe_type-requires : goal.maybe_type-requires
maybe_type-requires c = record {
  can = record {
    within = omega (arith, c.in_ok-name.ensures.went.within);
    numbered = omega (arith, c.in_ok-space.ensures.went.numbered, c.in_ok-name.ensures.went.numbered);
    few = omega (arith, c.in_ok-space.ensures.went.few, c.in_ok-name.ensures.went.few);
  };
}

pub returns-in_err-ty-clause-grows : goal.returns-in_err-ty-clause-grows
returns-in_err-ty-clause-grows c = grows_trans _ _ _ c.in_ok-space.ensures.grows (grows_trans _ _ _ c.in_ok-name.ensures.grows c.in_err-ty.ensures.grows)

pub maybe_value-requires : goal.maybe_value-requires
maybe_value-requires c = record {
  can = record {
    within = omega (arith, c.in_ok-ty.ensures.went.within);
    numbered = omega (arith, c.in_ok-space.ensures.went.numbered, c.in_ok-name.ensures.went.numbered, c.in_ok-ty.ensures.went.numbered);
    few = omega (arith, c.in_ok-space.ensures.went.few, c.in_ok-name.ensures.went.few, c.in_ok-ty.ensures.went.few);
  };
}

pub returns-in-Err-clause-grows : goal.returns-in-Err-clause-grows
returns-in-Err-clause-grows c = grows_trans _ _ _ c.in_ok-space.ensures.grows (grows_trans _ _ _ c.in_ok-name.ensures.grows (grows_trans _ _ _ c.in_ok-ty.ensures.grows c.in-Err.ensures.grows))

pub returns-clause-grows : goal.returns-clause-grows
returns-clause-grows c = grows_trans _ _ _ c.in_ok-space.ensures.grows (grows_trans _ _ _ c.in_ok-name.ensures.grows (grows_trans _ _ _ c.in_ok-ty.ensures.grows c.in-Ok.ensures.grows))

pub returns-clause-went : goal.returns-clause-went
returns-clause-went c = record {
  further = omega (arith, c.in_ok-space.ensures.went.further, c.in_ok-name.ensures.went.further, c.in_ok-ty.ensures.went.further, c.in-Ok.ensures.went.further);
  within = omega (arith, c.in-Ok.ensures.went.within);
  numbered = omega (arith, c.in_ok-space.ensures.went.numbered, c.in_ok-name.ensures.went.numbered, c.in_ok-ty.ensures.went.numbered, c.in-Ok.ensures.went.numbered);
  few = omega (arith, c.in_ok-space.ensures.went.few, c.in_ok-name.ensures.went.few, c.in_ok-ty.ensures.went.few, c.in-Ok.ensures.went.few);
}

use Rattle.std.proofs.Common.{arith}
use Rattle.shade_ast.specs.declared.lexeme.Sign.TheVariants as sign
use Rattle.shade_ast.specs.Lexemes.{Mark}
use Rattle.shade_ast.specs.Statements.{Name, OfType, HasValue}
use Rattle.shade_ast.proofs.ShapeLaws.{grows_trans}
use Rattle.shade_parse.specs.Rests.{OverrideRest}
use Rattle.shade_cursor.specs.declared.part.Fault.TheVariants as fault
use Rattle.shade_cursor.specs.Shown.{lexemes}
use Rattle.shade_parse_expr.proofs.Turns.{errs, fault_on, fails_here}
use Rattle.shade_parse_simple.proofs.Faulty.{within, fault_of}
use Rattle.shade_parse_simple.proofs.Widens.{widen, widen_maybe, named_keeps, expr_keeps}
use Rattle.shade_parse.proofs.DeclarationLaws.{override_name_fails, override_type_fails, override_value_fails, override_stuck}
use Rattle.shade_parse.proofs.DeclarationTrees.{override_tree}
use Rattle.shade_parse.proofs.declarations.overridable.Goals as goal

pub returns-in_err-name-clause-tree : goal.returns-in_err-name-clause-tree
returns-in_err-name-clause-tree c = errs _ c.in_err-name.field-0.0 _ _ c.from_residual.ensures.1
    (fault_on OverrideRest Name 0 0 (lexemes c.args.pieces.now) c.args.names.now c.args.names.now _ c.args.from c.args.from c.in_err-name.field-0.0 (omega arith)
    (λ to f. override_name_fails (within c.args.pieces.now c.args.from c.requires.can.within) f) c.in_err-name.ensures.tree)

pub returns-in_err-ty-clause-tree : goal.returns-in_err-ty-clause-tree
returns-in_err-ty-clause-tree c = errs _ c.in_err-ty.field-0.0 _ _ c.from_residual-in_err-ty.ensures.1
    (fault_of OverrideRest OfType 0 0 (lexemes c.args.pieces.now) c.args.names.now c.name.new.names _ c.args.from c.in_ok-name.name.end (omega (arith, c.in_ok-name.ensures.went.few))
    (Mark sign.Colon) c.in_err-ty.field-0.0 (λ to t lt f. override_type_fails (within c.args.pieces.now c.args.from c.requires.can.within) c.in_ok-name.ensures.tree.reads t lt f)
    c.in_err-ty.ensures.tree)

pub returns-in-Err-clause-tree : goal.returns-in-Err-clause-tree
returns-in-Err-clause-tree c = errs _ c.in-Err.fault _ _ c.refuse.ensures
    (fault_of OverrideRest HasValue 0 7 (lexemes c.args.pieces.now) c.args.names.now c.maybe_type.new.names _ c.args.from c.in_ok-ty.ty.end
    (omega (arith, c.in_ok-name.ensures.went.few, c.in_ok-ty.ensures.went.few)) (Mark sign.Equal) c.in-Err.fault
    (λ to t lt f. override_value_fails (within c.args.pieces.now c.args.from c.requires.can.within) (widen named_keeps c.in_ok-ty.ensures.grows c.in_ok-name.ensures.tree).reads _ _
    c.in_ok-ty.ensures.tree.reads t lt f) c.in-Err.ensures.tree)

pub returns-in_default-clause-tree : goal.returns-in_default-clause-tree
returns-in_default-clause-tree c = errs _ (fault.Unexpected (c.in-Ok.value.end)) _ _ c.refuse-in_default.ensures
    (fails_here OverrideRest 0 (lexemes c.args.pieces.now) c.args.names.now c.maybe_value.new.names c.args.from c.in-Ok.value.end
    (omega (arith, c.in_ok-name.ensures.went.few, c.in_ok-ty.ensures.went.few, c.in-Ok.ensures.went.few))
    (override_stuck (within c.args.pieces.now c.args.from c.requires.can.within)
    (widen named_keeps (grows_trans _ _ _ c.in_ok-ty.ensures.grows c.in-Ok.ensures.grows) c.in_ok-name.ensures.tree).reads _ _
    (widen_maybe expr_keeps c.in-Ok.ensures.grows c.in_ok-ty.ensures.tree).reads _ _ c.in-Ok.ensures.tree.reads c.in_default.ensures.value))

pub returns-clause-tree : goal.returns-clause-tree
returns-clause-tree c = override_tree (within c.args.pieces.now c.args.from c.requires.can.within)
    (widen named_keeps (grows_trans _ _ _ c.in_ok-ty.ensures.grows c.in-Ok.ensures.grows) c.in_ok-name.ensures.tree) (widen_maybe expr_keeps c.in-Ok.ensures.grows c.in_ok-ty.ensures.tree)
    c.in-Ok.ensures.tree c.in-Some.ensures.value

pub maybe_type-requires : goal.maybe_type-requires
maybe_type-requires c = record {
  can = record {
    within = omega (arith, c.in_ok-name.ensures.went.within);
    numbered = omega (arith, c.in_ok-name.ensures.went.numbered);
    few = omega (arith, c.in_ok-name.ensures.went.few);
  };
}

pub returns-in_err-ty-clause-grows : goal.returns-in_err-ty-clause-grows
returns-in_err-ty-clause-grows c = grows_trans _ _ _ c.in_ok-name.ensures.grows c.in_err-ty.ensures.grows

pub maybe_value-requires : goal.maybe_value-requires
maybe_value-requires c = record {
  can = record {
    within = omega (arith, c.in_ok-ty.ensures.went.within);
    numbered = omega (arith, c.in_ok-name.ensures.went.numbered, c.in_ok-ty.ensures.went.numbered);
    few = omega (arith, c.in_ok-name.ensures.went.few, c.in_ok-ty.ensures.went.few);
  };
}

pub returns-in-Err-clause-grows : goal.returns-in-Err-clause-grows
returns-in-Err-clause-grows c = grows_trans _ _ _ c.in_ok-name.ensures.grows (grows_trans _ _ _ c.in_ok-ty.ensures.grows c.in-Err.ensures.grows)

pub returns-in_default-clause-grows : goal.returns-in_default-clause-grows
returns-in_default-clause-grows c = grows_trans _ _ _ c.in_ok-name.ensures.grows (grows_trans _ _ _ c.in_ok-ty.ensures.grows c.in-Ok.ensures.grows)

pub returns-clause-grows : goal.returns-clause-grows
returns-clause-grows c = grows_trans _ _ _ c.in_ok-name.ensures.grows (grows_trans _ _ _ c.in_ok-ty.ensures.grows c.in-Ok.ensures.grows)

pub returns-clause-went : goal.returns-clause-went
returns-clause-went c = record {
  further = omega (arith, c.in_ok-name.ensures.went.further, c.in_ok-ty.ensures.went.further, c.in-Ok.ensures.went.further);
  within = omega (arith, c.in-Some.ensures.within);
  numbered = omega (arith, c.in_ok-name.ensures.went.numbered, c.in_ok-ty.ensures.went.numbered, c.in-Ok.ensures.went.numbered);
  few = omega (arith, c.in_ok-name.ensures.went.few, c.in_ok-ty.ensures.went.few, c.in-Ok.ensures.went.few);
}

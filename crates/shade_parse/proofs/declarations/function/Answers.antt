use Rattle.std.proofs.Common.{◌+◌, arith}
use Rattle.shade_ast.specs.declared.lexeme.Sign.TheVariants as sign
use Rattle.shade_ast.specs.Lexemes.{Mark}
use Rattle.shade_ast.specs.Repeats.{MaybeListed}
use Rattle.shade_ast.specs.Statements.{Name, Block}
use Rattle.shade_ast.specs.Declarations.{MemberOf, ResultOf}
use Rattle.shade_ast.proofs.ShapeLaws.{grows_trans}
use Rattle.shade_parse.specs.Rests.{Enclosed, FnRest}
use Rattle.shade_cursor.specs.Shown.{lexemes}
use Rattle.shade_parse_expr.proofs.Turns.{errs, fault_on, fails_here}
use Rattle.shade_parse_simple.proofs.Faulty.{within, fault_of}
use Rattle.shade_parse_simple.proofs.Widens.{widen, widen_maybe, named_keeps}
use Rattle.shade_parse.specs.Parts.{member_seen}
use Rattle.shade_parse.proofs.MemberTrees.{member_keeps, result_keeps}
use Rattle.shade_parse.proofs.DeclarationLaws.{fn_name_fails, fn_stuck, fn_params_fail, fn_result_fails, fn_body_fails}
use Rattle.shade_parse.proofs.DeclarationTrees.{fn_tree, enclosed_keeps}
use Rattle.shade_parse.proofs.declarations.function.Goals as goal

pub returns-in_err-name-clause-tree : goal.returns-in_err-name-clause-tree
returns-in_err-name-clause-tree c = errs _ c.in_err-name.field-0.0 _ _ c.from_residual.ensures.1
    (fault_on FnRest Name 0 0 (lexemes c.args.pieces.now) c.args.names.now c.args.names.now _ c.args.from c.args.from c.in_err-name.field-0.0 (omega arith)
    (λ to f. fn_name_fails (within c.args.pieces.now c.args.from c.requires.can.within) f) c.in_err-name.ensures.tree)

pub returns-in_default-clause-tree : goal.returns-in_default-clause-tree
returns-in_default-clause-tree c = fails_here FnRest 0 (lexemes c.args.pieces.now) c.args.names.now c.name.new.names c.args.from c.in_ok-name.name.end
    (omega (arith, c.in_ok-name.ensures.went.few)) (fn_stuck (within c.args.pieces.now c.args.from c.requires.can.within) c.in_ok-name.ensures.tree.reads c.in_default.ensures.value)

pub returns-in_err-list-clause-tree : goal.returns-in_err-list-clause-tree
returns-in_err-list-clause-tree c = errs _ c.in_err-list.field-0.0 _ _ c.from_residual-in_err-list.ensures.1
    (fault_on FnRest (Enclosed (MaybeListed MemberOf) sign.Close) 0 0 (lexemes c.args.pieces.now) c.args.names.now c.name.new.names _ c.args.from (c.in_ok-name.name.end + 1)
    c.in_err-list.field-0.0 (omega (arith, c.in_ok-name.ensures.went.few))
    (λ to f. fn_params_fail (within c.args.pieces.now c.args.from c.requires.can.within) c.in_ok-name.ensures.tree.reads _ c.in-Some.ensures.value f) c.in_err-list.ensures.tree)

pub returns-in_err-result-clause-tree : goal.returns-in_err-result-clause-tree
returns-in_err-result-clause-tree c = errs _ c.in_err-result.field-0.0 _ _ c.from_residual-in_err-result.ensures.1
    (fault_of FnRest ResultOf 0 0 (lexemes c.args.pieces.now) c.args.names.now c.parameters.new.names _ c.args.from c.in_ok-list.list.end
    (omega (arith, c.in_ok-name.ensures.went.few, c.in_ok-list.ensures.went.few)) (Mark sign.Arrow) c.in_err-result.field-0.0
    (λ to t lt f. fn_result_fails (within c.args.pieces.now c.args.from c.requires.can.within) (widen named_keeps c.in_ok-list.ensures.grows c.in_ok-name.ensures.tree).reads _
    c.in-Some.ensures.value c.in_ok-list.ensures.tree.reads t lt f) c.in_err-result.ensures.tree)

pub returns-in-Err-clause-tree : goal.returns-in-Err-clause-tree
returns-in-Err-clause-tree c = errs _ c.in-Err.fault _ _ c.refuse.ensures
    (fault_on FnRest Block 0 0 (lexemes c.args.pieces.now) c.args.names.now c.maybe_result.new.names _ c.args.from c.in_ok-result.result.end c.in-Err.fault
    (omega (arith, c.in_ok-name.ensures.went.few, c.in_ok-list.ensures.went.few, c.in_ok-result.ensures.went.few))
    (λ to f. fn_body_fails (within c.args.pieces.now c.args.from c.requires.can.within)
    (widen named_keeps (grows_trans _ _ _ c.in_ok-list.ensures.grows c.in_ok-result.ensures.grows) c.in_ok-name.ensures.tree).reads _ c.in-Some.ensures.value
    (widen (enclosed_keeps member_seen member_keeps) c.in_ok-result.ensures.grows c.in_ok-list.ensures.tree).reads _ _ c.in_ok-result.ensures.tree.reads f) c.in-Err.ensures.tree)

pub returns-clause-tree : goal.returns-clause-tree
returns-clause-tree c = fn_tree (within c.args.pieces.now c.args.from c.requires.can.within)
    (widen named_keeps (grows_trans _ _ _ c.in_ok-list.ensures.grows (grows_trans _ _ _ c.in_ok-result.ensures.grows c.in-Ok.ensures.grows)) c.in_ok-name.ensures.tree)
    c.in-Some.ensures.value (widen (enclosed_keeps member_seen member_keeps) (grows_trans _ _ _ c.in_ok-result.ensures.grows c.in-Ok.ensures.grows) c.in_ok-list.ensures.tree)
    (widen_maybe result_keeps c.in-Ok.ensures.grows c.in_ok-result.ensures.tree) c.in-Ok.ensures.tree

pub parameters-requires : goal.parameters-requires
parameters-requires c = record {
  can = record {
    within = omega (arith, c.in-Some.ensures.within);
    numbered = omega (arith, c.in_ok-name.ensures.went.numbered);
    few = omega (arith, c.in_ok-name.ensures.went.few);
  };
}

pub returns-in_err-list-clause-grows : goal.returns-in_err-list-clause-grows
returns-in_err-list-clause-grows c = grows_trans _ _ _ c.in_ok-name.ensures.grows c.in_err-list.ensures.grows

pub maybe_result-requires : goal.maybe_result-requires
maybe_result-requires c = record {
  can = record {
    within = omega (arith, c.in_ok-list.ensures.went.within);
    numbered = omega (arith, c.in_ok-name.ensures.went.numbered, c.in_ok-list.ensures.went.numbered);
    few = omega (arith, c.in_ok-name.ensures.went.few, c.in_ok-list.ensures.went.few);
  };
}

pub returns-in_err-result-clause-grows : goal.returns-in_err-result-clause-grows
returns-in_err-result-clause-grows c = grows_trans _ _ _ c.in_ok-name.ensures.grows (grows_trans _ _ _ c.in_ok-list.ensures.grows c.in_err-result.ensures.grows)

pub block-requires : goal.block-requires
block-requires c = record {
  can = record {
    within = omega (arith, c.in_ok-result.ensures.went.within);
    numbered = omega (arith, c.in_ok-name.ensures.went.numbered, c.in_ok-list.ensures.went.numbered, c.in_ok-result.ensures.went.numbered);
    few = omega (arith, c.in_ok-name.ensures.went.few, c.in_ok-list.ensures.went.few, c.in_ok-result.ensures.went.few);
  };
}

pub returns-in-Err-clause-grows : goal.returns-in-Err-clause-grows
returns-in-Err-clause-grows c = grows_trans _ _ _ c.in_ok-name.ensures.grows (grows_trans _ _ _ c.in_ok-list.ensures.grows (grows_trans _ _ _ c.in_ok-result.ensures.grows c.in-Err.ensures.grows))

pub returns-clause-grows : goal.returns-clause-grows
returns-clause-grows c = grows_trans _ _ _ c.in_ok-name.ensures.grows (grows_trans _ _ _ c.in_ok-list.ensures.grows (grows_trans _ _ _ c.in_ok-result.ensures.grows c.in-Ok.ensures.grows))

pub returns-clause-went : goal.returns-clause-went
returns-clause-went c = record {
  further = omega (arith, c.in_ok-name.ensures.went.further, c.in_ok-list.ensures.went.further, c.in_ok-result.ensures.went.further, c.in-Ok.ensures.went.further);
  within = omega (arith, c.in-Ok.ensures.went.within);
  numbered = omega (arith, c.in_ok-name.ensures.went.numbered, c.in_ok-list.ensures.went.numbered, c.in_ok-result.ensures.went.numbered, c.in-Ok.ensures.went.numbered);
  few = omega (arith, c.in_ok-name.ensures.went.few, c.in_ok-list.ensures.went.few, c.in_ok-result.ensures.went.few, c.in-Ok.ensures.went.few);
}

use Rattle.std.proofs.Common.{refl, ◌+◌, arith}
use Rattle.shade_ast.specs.declared.lexeme.Sign.TheVariants as sign
use Rattle.shade_ast.specs.Lexemes.{Mark}
use Rattle.shade_ast.specs.Statements.{Name, VarSpace}
use Rattle.shade_parse_simple.specs.Rests.{SpaceEnd}
use Rattle.shade_ast.proofs.ShapeLaws.{grows_trans}
use Rattle.shade_cursor.specs.Shown.{lexemes}
use Rattle.shade_parse_expr.proofs.Turns.{errs}
use Rattle.shade_parse_simple.proofs.Faulty.{within, fault_in}
use Rattle.shade_parse_simple.proofs.Widens.{widen, named_keeps}
use Rattle.shade_parse_simple.proofs.Openings.{opened_fails}
use Rattle.shade_parse_simple.proofs.BindingTrees.{space_tree}
use Rattle.shade_parse_simple.proofs.BindingLaws.{space_rest_name_fails, space_rest_end_fails, var_space_opens}
use Rattle.shade_parse_simple.proofs.bindings.maybe_space.Goals as goal

pub returns-in_err-space-clause-tree : goal.returns-in_err-space-clause-tree
returns-in_err-space-clause-tree c = errs _ c.in_err-space.field-0.0 _ _ c.from_residual.ensures.1
    (fault_in VarSpace Name 0 0 (lexemes c.args.pieces.now) c.args.names.now c.args.names.now _ c.args.from (c.args.from + 1) (omega arith) (Mark sign.OpenTemplate)
    (_, c.in-Some.ensures.value) (omega arith) c.in_err-space.field-0.0
    (λ to f. opened_fails var_space_opens (omega arith) (within c.args.pieces.now c.args.from c.requires.can.within) (λ p. refl) _ c.in-Some.ensures.value
    (space_rest_name_fails (within c.args.pieces.now (c.args.from + 1) (omega (arith, c.in-Some.ensures.within))) f)) c.in_err-space.ensures.tree)

pub returns-in_err-access-clause-tree : goal.returns-in_err-access-clause-tree
returns-in_err-access-clause-tree c = errs _ c.in_err-access.field-0.0 _ _ c.from_residual-in_err-access.ensures.1
    (fault_in VarSpace SpaceEnd 0 0 (lexemes c.args.pieces.now) c.args.names.now c.name.new.names _ c.args.from c.in_ok-space.space.end (omega (arith, c.in_ok-space.ensures.went.few))
    (Mark sign.OpenTemplate) (_, c.in-Some.ensures.value) (omega (arith, c.in_ok-space.ensures.went.further)) c.in_err-access.field-0.0
    (λ to f. opened_fails var_space_opens (omega arith) (within c.args.pieces.now c.args.from c.requires.can.within) (λ p. refl) _ c.in-Some.ensures.value
    (space_rest_end_fails (within c.args.pieces.now (c.args.from + 1) (omega (arith, c.in-Some.ensures.within))) c.in_ok-space.ensures.tree.reads f)) c.in_err-access.ensures.tree)

pub returns-clause-tree : goal.returns-clause-tree
returns-clause-tree c = space_tree (within c.args.pieces.now c.args.from c.requires.can.within) c.in-Some.ensures.value
    (within c.args.pieces.now (c.args.from + 1) (omega (arith, c.in-Some.ensures.within))) (omega (arith, c.in_ok-space.ensures.went.further, c.in_ok-access.ensures.went.further))
    (widen named_keeps c.in_ok-access.ensures.grows c.in_ok-space.ensures.tree) c.in_ok-access.ensures.tree

pub access-requires : goal.access-requires
access-requires c = record {
  can = record {
    within = omega (arith, c.in_ok-space.ensures.went.within);
    numbered = omega (arith, c.in_ok-space.ensures.went.numbered);
    few = omega (arith, c.in_ok-space.ensures.went.few);
  };
}

pub returns-in_err-access-clause-grows : goal.returns-in_err-access-clause-grows
returns-in_err-access-clause-grows c = grows_trans _ _ _ c.in_ok-space.ensures.grows c.in_err-access.ensures.grows

pub returns-clause-grows : goal.returns-clause-grows
returns-clause-grows c = grows_trans _ _ _ c.in_ok-space.ensures.grows c.in_ok-access.ensures.grows

pub returns-clause-went : goal.returns-clause-went
returns-clause-went c = record {
  further = omega (arith, c.in_ok-space.ensures.went.further, c.in_ok-access.ensures.went.further);
  within = omega (arith, c.in_ok-access.ensures.went.within);
  numbered = omega (arith, c.in_ok-space.ensures.went.numbered, c.in_ok-access.ensures.went.numbered);
  few = omega (arith, c.in_ok-space.ensures.went.few, c.in_ok-access.ensures.went.few);
}

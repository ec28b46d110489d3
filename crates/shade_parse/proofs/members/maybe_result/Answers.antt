use Rattle.std.proofs.Common.{refl, ◌+◌, arith}
use Rattle.shade_ast.specs.declared.lexeme.Sign.TheVariants as sign
use Rattle.shade_ast.specs.Lexemes.{Mark}
use Rattle.shade_ast.specs.Repeats.{Many}
use Rattle.shade_ast.specs.Expressions.{TypeName}
use Rattle.shade_ast.specs.Statements.{Attribute}
use Rattle.shade_ast.specs.Declarations.{ResultOf}
use Rattle.shade_ast.proofs.ShapeLaws.{grows_trans}
use Rattle.shade_cursor.specs.Shown.{lexemes}
use Rattle.shade_parse_expr.proofs.Turns.{errs}
use Rattle.shade_parse_simple.proofs.Faulty.{within, fault_in}
use Rattle.shade_parse_simple.proofs.Widens.{widen, attrs_keep, part_reads}
use Rattle.shade_parse_simple.proofs.Openings.{opened_fails}
use Rattle.shade_parse.proofs.MemberLaws.{result_opens, result_attrs_fail, result_type_fails}
use Rattle.shade_parse.proofs.MemberTrees.{result_tree}
use Rattle.shade_parse.proofs.members.maybe_result.Goals as goal

pub returns-in_err-attrs-clause-tree : goal.returns-in_err-attrs-clause-tree
returns-in_err-attrs-clause-tree c = errs _ c.in_err-attrs.field-0.0 _ _ c.from_residual.ensures.1
    (fault_in ResultOf (Many Attribute) 0 8 (lexemes c.args.pieces.now) c.args.names.now c.args.names.now _ c.args.from (c.args.from + 1) (omega arith) (Mark sign.Arrow)
    (_, c.in-Some.ensures.value) (omega arith) c.in_err-attrs.field-0.0
    (λ to f. opened_fails result_opens (omega arith) (within c.args.pieces.now c.args.from c.requires.can.within) (λ p. refl) _ c.in-Some.ensures.value
    (result_attrs_fail (within c.args.pieces.now (c.args.from + 1) (omega (arith, c.in-Some.ensures.within))) f)) c.in_err-attrs.ensures.tree)

pub returns-in_err-ty-clause-tree : goal.returns-in_err-ty-clause-tree
returns-in_err-ty-clause-tree c = errs _ c.in_err-ty.field-0.0 _ _ c.from_residual-in_err-ty.ensures.1
    (fault_in ResultOf TypeName 0 0 (lexemes c.args.pieces.now) c.args.names.now c.attributes.new.names _ c.args.from c.in_ok-attrs.attrs.end (omega (arith, c.in_ok-attrs.ensures.went.few))
    (Mark sign.Arrow) (_, c.in-Some.ensures.value) (omega (arith, c.in_ok-attrs.ensures.went.further)) c.in_err-ty.field-0.0
    (λ to f. opened_fails result_opens (omega arith) (within c.args.pieces.now c.args.from c.requires.can.within) (λ p. refl) _ c.in-Some.ensures.value
    (result_type_fails (within c.args.pieces.now (c.args.from + 1) (omega (arith, c.in-Some.ensures.within))) c.in_ok-attrs.ensures.tree.reads f)) c.in_err-ty.ensures.tree)

pub returns-clause-tree : goal.returns-clause-tree
returns-clause-tree c = result_tree (within c.args.pieces.now c.args.from c.requires.can.within) c.in-Some.ensures.value
    (within c.args.pieces.now (c.args.from + 1) (omega (arith, c.in-Some.ensures.within))) (omega (arith, c.in_ok-attrs.ensures.went.further, c.in_ok-ty.ensures.went.further))
    (widen attrs_keep c.in_ok-ty.ensures.grows c.in_ok-attrs.ensures.tree) (part_reads c.in_ok-ty.ensures.tree)

pub type_name-requires : goal.type_name-requires
type_name-requires c = record {
  can = record {
    within = omega (arith, c.in_ok-attrs.ensures.went.within);
    numbered = omega (arith, c.in_ok-attrs.ensures.went.numbered);
    few = omega (arith, c.in_ok-attrs.ensures.went.few);
  };
}

pub returns-in_err-ty-clause-grows : goal.returns-in_err-ty-clause-grows
returns-in_err-ty-clause-grows c = grows_trans _ _ _ c.in_ok-attrs.ensures.grows c.in_err-ty.ensures.grows

pub returns-clause-grows : goal.returns-clause-grows
returns-clause-grows c = grows_trans _ _ _ c.in_ok-attrs.ensures.grows c.in_ok-ty.ensures.grows

pub returns-clause-went : goal.returns-clause-went
returns-clause-went c = record {
  further = omega (arith, c.in_ok-attrs.ensures.went.further, c.in_ok-ty.ensures.went.further);
  within = omega (arith, c.in_ok-ty.ensures.went.within);
  numbered = omega (arith, c.in_ok-attrs.ensures.went.numbered, c.in_ok-ty.ensures.went.numbered);
  few = omega (arith, c.in_ok-attrs.ensures.went.few, c.in_ok-ty.ensures.went.few);
}

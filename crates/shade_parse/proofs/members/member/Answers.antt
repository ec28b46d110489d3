use Rattle.std.proofs.Common.{arith}
use Rattle.shade_ast.specs.Repeats.{Many}
use Rattle.shade_ast.specs.Statements.{Name, Attribute, OfType}
use Rattle.shade_ast.specs.Declarations.{MemberOf}
use Rattle.shade_ast.proofs.ShapeLaws.{grows_trans}
use Rattle.shade_cursor.specs.Shown.{lexemes}
use Rattle.shade_parse_expr.proofs.Turns.{errs, fault_on}
use Rattle.shade_parse_simple.proofs.Faulty.{within}
use Rattle.shade_parse_simple.proofs.Widens.{widen, named_keeps, attrs_keep}
use Rattle.shade_parse.proofs.MemberLaws.{member_attrs_fail, member_name_fails, member_type_fails}
use Rattle.shade_parse.proofs.MemberTrees.{member_tree}
use Rattle.shade_parse.proofs.members.member.Goals as goal

pub returns-in_err-attrs-clause-tree : goal.returns-in_err-attrs-clause-tree
returns-in_err-attrs-clause-tree c = errs _ c.in_err-attrs.field-0.0 _ _ c.from_residual.ensures.1
    (fault_on MemberOf (Many Attribute) 0 8 (lexemes c.args.pieces.now) c.args.names.now c.args.names.now _ c.args.from c.args.from c.in_err-attrs.field-0.0 (omega arith)
    (λ to f. member_attrs_fail (within c.args.pieces.now c.args.from c.requires.can.within) f) c.in_err-attrs.ensures.tree)

pub returns-in_err-name-clause-tree : goal.returns-in_err-name-clause-tree
returns-in_err-name-clause-tree c = errs _ c.in_err-name.field-0.0 _ _ c.from_residual-in_err-name.ensures.1
    (fault_on MemberOf Name 0 0 (lexemes c.args.pieces.now) c.args.names.now c.attributes.new.names _ c.args.from c.in_ok-attrs.attrs.end c.in_err-name.field-0.0
    (omega (arith, c.in_ok-attrs.ensures.went.few)) (λ to f. member_name_fails (within c.args.pieces.now c.args.from c.requires.can.within) c.in_ok-attrs.ensures.tree.reads f)
    c.in_err-name.ensures.tree)

pub returns-in_err-ty-clause-tree : goal.returns-in_err-ty-clause-tree
returns-in_err-ty-clause-tree c = errs _ c.in_err-ty.field-0.0 _ _ c.from_residual-in_err-ty.ensures.1
    (fault_on MemberOf OfType 0 0 (lexemes c.args.pieces.now) c.args.names.now c.name.new.names _ c.args.from c.in_ok-name.name.end c.in_err-ty.field-0.0
    (omega (arith, c.in_ok-attrs.ensures.went.few, c.in_ok-name.ensures.went.few))
    (λ to f. member_type_fails (within c.args.pieces.now c.args.from c.requires.can.within) (widen attrs_keep c.in_ok-name.ensures.grows c.in_ok-attrs.ensures.tree).reads
    c.in_ok-name.ensures.tree.reads f) c.in_err-ty.ensures.tree)

pub returns-clause-tree : goal.returns-clause-tree
returns-clause-tree c = member_tree (within c.args.pieces.now c.args.from c.requires.can.within) c.first_place-place.ensures
    (widen attrs_keep (grows_trans _ _ _ c.in_ok-name.ensures.grows c.in_ok-ty.ensures.grows) c.in_ok-attrs.ensures.tree)
    (widen named_keeps c.in_ok-ty.ensures.grows c.in_ok-name.ensures.tree) c.in_ok-ty.ensures.tree

pub name-requires : goal.name-requires
name-requires c = record {
  can = record {
    within = omega (arith, c.in_ok-attrs.ensures.went.within);
    numbered = omega (arith, c.in_ok-attrs.ensures.went.numbered);
    few = omega (arith, c.in_ok-attrs.ensures.went.few);
  };
}

pub returns-in_err-name-clause-grows : goal.returns-in_err-name-clause-grows
returns-in_err-name-clause-grows c = grows_trans _ _ _ c.in_ok-attrs.ensures.grows c.in_err-name.ensures.grows

pub of_type-requires : goal.of_type-requires
of_type-requires c = record {
  can = record {
    within = omega (arith, c.in_ok-name.ensures.went.within);
    numbered = omega (arith, c.in_ok-attrs.ensures.went.numbered, c.in_ok-name.ensures.went.numbered);
    few = omega (arith, c.in_ok-attrs.ensures.went.few, c.in_ok-name.ensures.went.few);
  };
}

pub returns-in_err-ty-clause-grows : goal.returns-in_err-ty-clause-grows
returns-in_err-ty-clause-grows c = grows_trans _ _ _ c.in_ok-attrs.ensures.grows (grows_trans _ _ _ c.in_ok-name.ensures.grows c.in_err-ty.ensures.grows)

pub returns-clause-grows : goal.returns-clause-grows
returns-clause-grows c = grows_trans _ _ _ c.in_ok-attrs.ensures.grows (grows_trans _ _ _ c.in_ok-name.ensures.grows c.in_ok-ty.ensures.grows)

pub returns-clause-went : goal.returns-clause-went
returns-clause-went c = record {
  further = omega (arith, c.in_ok-attrs.ensures.went.further, c.in_ok-name.ensures.went.further, c.in_ok-ty.ensures.went.further);
  within = omega (arith, c.in_ok-ty.ensures.went.within);
  numbered = omega (arith, c.in_ok-attrs.ensures.went.numbered, c.in_ok-name.ensures.went.numbered, c.in_ok-ty.ensures.node);
  few = omega (arith, c.in_ok-attrs.ensures.went.few, c.in_ok-name.ensures.went.few, c.in_ok-ty.ensures.went.few);
}

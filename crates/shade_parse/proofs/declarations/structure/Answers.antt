use Rattle.std.proofs.Common.{◌+◌, arith}
use Rattle.shade_ast.specs.declared.lexeme.Sign.TheVariants as sign
use Rattle.shade_ast.specs.Repeats.{Listed}
use Rattle.shade_ast.specs.Statements.{Name}
use Rattle.shade_ast.specs.Declarations.{MemberOf}
use Rattle.shade_parse.specs.Rests.{Enclosed, StructRest}
use Rattle.shade_ast.proofs.ShapeLaws.{grows_trans}
use Rattle.shade_cursor.specs.Shown.{lexemes}
use Rattle.shade_parse_expr.proofs.Turns.{errs, fault_on, fails_here}
use Rattle.shade_parse_simple.proofs.Faulty.{within}
use Rattle.shade_parse_simple.proofs.Widens.{widen, named_keeps}
use Rattle.shade_parse.proofs.PlainLaws.{struct_name_fails, struct_stuck, struct_members_fail}
use Rattle.shade_parse.proofs.DeclarationLaws.{some_members}
use Rattle.shade_parse.proofs.DeclarationTrees.{struct_tree}
use Rattle.shade_parse.proofs.declarations.structure.Goals as goal

pub returns-in_err-name-clause-tree : goal.returns-in_err-name-clause-tree
returns-in_err-name-clause-tree c = errs _ c.in_err-name.field-0.0 _ _ c.from_residual.ensures.1
    (fault_on (StructRest c.args.place) Name 0 0 (lexemes c.args.pieces.now) c.args.names.now c.args.names.now _ c.args.from c.args.from c.in_err-name.field-0.0 (omega arith)
    (λ to f. struct_name_fails c.args.place some_members (within c.args.pieces.now c.args.from c.requires.can.within) f) c.in_err-name.ensures.tree)

pub returns-in_default-clause-tree : goal.returns-in_default-clause-tree
returns-in_default-clause-tree c = fails_here (StructRest c.args.place) 0 (lexemes c.args.pieces.now) c.args.names.now c.name.new.names c.args.from c.in_ok-name.name.end
    (omega (arith, c.in_ok-name.ensures.went.few))
    (struct_stuck c.args.place some_members (within c.args.pieces.now c.args.from c.requires.can.within) c.in_ok-name.ensures.tree.reads c.in_default.ensures.value)

pub returns-in_err-list-clause-tree : goal.returns-in_err-list-clause-tree
returns-in_err-list-clause-tree c = errs _ c.in_err-list.field-0.0 _ _ c.from_residual-in_err-list.ensures.1
    (fault_on (StructRest c.args.place) (Enclosed (Listed MemberOf) sign.CloseBrace) 0 0 (lexemes c.args.pieces.now) c.args.names.now c.name.new.names _ c.args.from
    (c.in_ok-name.name.end + 1) c.in_err-list.field-0.0 (omega (arith, c.in_ok-name.ensures.went.few))
    (λ to f. struct_members_fail c.args.place some_members (within c.args.pieces.now c.args.from c.requires.can.within) c.in_ok-name.ensures.tree.reads _ c.in-Some.ensures.value f)
    c.in_err-list.ensures.tree)

pub returns-clause-tree : goal.returns-clause-tree
returns-clause-tree c = struct_tree (within c.args.pieces.now c.args.from c.requires.can.within) (widen named_keeps c.in_ok-list.ensures.grows c.in_ok-name.ensures.tree) c.in-Some.ensures.value c.in_ok-list.ensures.tree

pub members-requires-clause-can : goal.members-requires-clause-can
members-requires-clause-can c = record {
  within = omega (arith, c.in-Some.ensures.within);
  numbered = omega (arith, c.in_ok-name.ensures.went.numbered);
  few = omega (arith, c.in_ok-name.ensures.went.few);
}

pub returns-in_err-list-clause-grows : goal.returns-in_err-list-clause-grows
returns-in_err-list-clause-grows c = grows_trans _ _ _ c.in_ok-name.ensures.grows c.in_err-list.ensures.grows

pub returns-clause-grows : goal.returns-clause-grows
returns-clause-grows c = grows_trans _ _ _ c.in_ok-name.ensures.grows c.in_ok-list.ensures.grows

pub returns-clause-went : goal.returns-clause-went
returns-clause-went c = record {
  further = omega (arith, c.in_ok-name.ensures.went.further, c.in_ok-list.ensures.went.further);
  within = omega (arith, c.in_ok-list.ensures.went.within);
  numbered = omega (arith, c.in_ok-name.ensures.went.numbered, c.in_ok-list.ensures.went.numbered);
  few = omega (arith, c.in_ok-name.ensures.went.few, c.in_ok-list.ensures.went.few);
}

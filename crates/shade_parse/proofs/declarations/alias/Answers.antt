use Rattle.std.proofs.Common.{◌+◌, arith}
use Rattle.shade_ast.specs.Expressions.{TypeName}
use Rattle.shade_ast.specs.Statements.{Name}
use Rattle.shade_parse.specs.Rests.{AliasRest}
use Rattle.shade_ast.proofs.ShapeLaws.{grows_trans}
use Rattle.shade_cursor.specs.declared.part.Fault.TheVariants as fault
use Rattle.shade_cursor.specs.Shown.{lexemes}
use Rattle.shade_parse_expr.proofs.Turns.{errs, fault_on, fails_here}
use Rattle.shade_parse_simple.proofs.Faulty.{within}
use Rattle.shade_parse_simple.proofs.Widens.{widen, named_keeps, part_reads}
use Rattle.shade_ast.specs.Shapes.{alias_decl}
use Rattle.shade_parse.proofs.PlainLaws.{closed_fails, closed_stuck, alias_name_fails, alias_stuck, alias_equal}
use Rattle.shade_parse.proofs.DeclarationTrees.{alias_tree}
use Rattle.shade_parse.proofs.declarations.alias.Goals as goal

pub returns-in_err-name-clause-tree : goal.returns-in_err-name-clause-tree
returns-in_err-name-clause-tree c = errs _ c.in_err-name.field-0.0 _ _ c.from_residual.ensures.1
    (fault_on (AliasRest c.args.place) Name 0 0 (lexemes c.args.pieces.now) c.args.names.now c.args.names.now _ c.args.from c.args.from c.in_err-name.field-0.0 (omega arith)
    (λ to f. alias_name_fails c.args.place (within c.args.pieces.now c.args.from c.requires.can.within) f) c.in_err-name.ensures.tree)

pub returns-in_default-clause-tree : goal.returns-in_default-clause-tree
returns-in_default-clause-tree c = fails_here (AliasRest c.args.place) 0 (lexemes c.args.pieces.now) c.args.names.now c.name.new.names c.args.from c.in_ok-name.name.end
    (omega (arith, c.in_ok-name.ensures.went.few)) (alias_stuck c.args.place (within c.args.pieces.now c.args.from c.requires.can.within) c.in_ok-name.ensures.tree.reads c.in_default.ensures.value)

pub returns-in_err-ty-clause-tree : goal.returns-in_err-ty-clause-tree
returns-in_err-ty-clause-tree c = errs _ c.in_err-ty.field-0.0 _ _ c.from_residual-in_err-ty.ensures.1
    (fault_on (AliasRest c.args.place) TypeName 0 0 (lexemes c.args.pieces.now) c.args.names.now c.name.new.names _ c.args.from (c.in_ok-name.name.end + 1) c.in_err-ty.field-0.0
    (omega (arith, c.in_ok-name.ensures.went.few))
    (λ to f. closed_fails TypeName (alias_decl c.args.place _) (omega arith)
    (alias_equal c.args.place (within c.args.pieces.now c.args.from c.requires.can.within) c.in_ok-name.ensures.tree.reads _ c.in-Some.ensures.value) f) c.in_err-ty.ensures.tree)

pub returns-in_default-mark_at-clause-tree : goal.returns-in_default-mark_at-clause-tree
returns-in_default-mark_at-clause-tree c = errs _ (fault.Unexpected (c.in_ok-ty.ty.end)) _ _ c.refuse.ensures
    (fails_here (AliasRest c.args.place) 0 (lexemes c.args.pieces.now) c.args.names.now c.type_name.new.names c.args.from c.in_ok-ty.ty.end
    (omega (arith, c.in_ok-name.ensures.went.few, c.in_ok-ty.ensures.went.few))
    (closed_stuck TypeName (alias_decl c.args.place _) (omega arith)
    (alias_equal c.args.place (within c.args.pieces.now c.args.from c.requires.can.within) c.in_ok-name.ensures.tree.reads _ c.in-Some.ensures.value) c.in_ok-ty.ensures.tree.reads
    c.in_default-mark_at.ensures.value))

pub returns-clause-tree : goal.returns-clause-tree
returns-clause-tree c = alias_tree (within c.args.pieces.now c.args.from c.requires.can.within) (widen named_keeps c.in_ok-ty.ensures.grows c.in_ok-name.ensures.tree) c.in-Some.ensures.value (part_reads c.in_ok-ty.ensures.tree) c.in-Some-mark_at.ensures.value

pub type_name-requires : goal.type_name-requires
type_name-requires c = record {
  can = record {
    within = omega (arith, c.in-Some.ensures.within);
    numbered = omega (arith, c.in_ok-name.ensures.went.numbered);
    few = omega (arith, c.in_ok-name.ensures.went.few);
  };
}

pub returns-in_err-ty-clause-grows : goal.returns-in_err-ty-clause-grows
returns-in_err-ty-clause-grows c = grows_trans _ _ _ c.in_ok-name.ensures.grows c.in_err-ty.ensures.grows

pub returns-in_default-mark_at-clause-grows : goal.returns-in_default-mark_at-clause-grows
returns-in_default-mark_at-clause-grows c = grows_trans _ _ _ c.in_ok-name.ensures.grows c.in_ok-ty.ensures.grows

pub returns-clause-grows : goal.returns-clause-grows
returns-clause-grows c = grows_trans _ _ _ c.in_ok-name.ensures.grows c.in_ok-ty.ensures.grows

pub returns-clause-went : goal.returns-clause-went
returns-clause-went c = record {
  further = omega (arith, c.in_ok-name.ensures.went.further, c.in_ok-ty.ensures.went.further);
  within = omega (arith, c.in-Some-mark_at.ensures.within);
  numbered = omega (arith, c.in_ok-name.ensures.went.numbered, c.in_ok-ty.ensures.went.numbered);
  few = omega (arith, c.in_ok-name.ensures.went.few, c.in_ok-ty.ensures.went.few);
}

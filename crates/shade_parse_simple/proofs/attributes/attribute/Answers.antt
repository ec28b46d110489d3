use Rattle.std.proofs.Common.{◌+◌, arith}
use Rattle.shade_ast.specs.declared.lexeme.Sign.TheVariants as sign
use Rattle.shade_ast.specs.Lexemes.{Mark}
use Rattle.shade_ast.specs.Statements.{AttrName, AttrArguments, Attribute}
use Rattle.shade_ast.proofs.ShapeLaws.{grows_trans}
use Rattle.shade_cursor.specs.Shown.{lexemes}
use Rattle.shade_parse_expr.proofs.Turns.{errs, fault_on, fails_here}
use Rattle.shade_parse_simple.proofs.Faulty.{within, fault_of}
use Rattle.shade_parse_simple.proofs.Widens.{widen}
use Rattle.shade_parse_simple.proofs.AttributeLaws.{attr_none, attr_named_fails, attr_arguments_fails}
use Rattle.shade_parse_simple.proofs.AttributeTrees.{attr_name_keeps, attr_tree}
use Rattle.shade_parse_simple.proofs.attributes.attribute.Goals as goal

pub returns-in_default-clause-tree : goal.returns-in_default-clause-tree
returns-in_default-clause-tree c = fails_here Attribute 1 (lexemes c.args.pieces.now) c.args.names.now c.args.names.now c.args.from c.args.from (omega arith) (attr_none (within c.args.pieces.now c.args.from c.requires.can.within) c.in_default.ensures.value)

pub returns-in_err-name-clause-tree : goal.returns-in_err-name-clause-tree
returns-in_err-name-clause-tree c = errs _ c.in_err-name.field-0.0 _ _ c.from_residual.ensures.1
    (fault_on Attribute AttrName 1 0 (lexemes c.args.pieces.now) c.args.names.now c.args.names.now _ c.args.from (c.args.from + 1) c.in_err-name.field-0.0 (omega arith)
    (λ to f. attr_named_fails (within c.args.pieces.now c.args.from c.requires.can.within) _ c.in-Some.ensures.value f) c.in_err-name.ensures.tree)

pub returns-in_err-listed-clause-tree : goal.returns-in_err-listed-clause-tree
returns-in_err-listed-clause-tree c = errs _ c.in_err-listed.field-0.0 _ _ c.from_residual-in_err-listed.ensures.1
    (fault_of Attribute AttrArguments 1 0 (lexemes c.args.pieces.now) c.args.names.now c.attr_name.new.names _ c.args.from c.in_ok-name.name.end (omega (arith, c.in_ok-name.ensures.went.few))
    (Mark sign.Open) c.in_err-listed.field-0.0
    (λ to t lt f. attr_arguments_fails (within c.args.pieces.now c.args.from c.requires.can.within) _ c.in-Some.ensures.value c.in_ok-name.ensures.tree.reads t lt f)
    c.in_err-listed.ensures.tree)

pub returns-clause-tree : goal.returns-clause-tree
returns-clause-tree c = attr_tree (within c.args.pieces.now c.args.from c.requires.can.within) c.in-Some.ensures.value (widen attr_name_keeps c.in_ok-listed.ensures.grows c.in_ok-name.ensures.tree) c.in_ok-listed.ensures.tree

pub maybe_arguments-requires : goal.maybe_arguments-requires
maybe_arguments-requires c = record {
  can = record {
    within = omega (arith, c.in_ok-name.ensures.went.within);
    numbered = omega (arith, c.in_ok-name.ensures.went.numbered);
    few = omega (arith, c.in_ok-name.ensures.went.few);
  };
}

pub returns-in_err-listed-clause-grows : goal.returns-in_err-listed-clause-grows
returns-in_err-listed-clause-grows c = grows_trans _ _ _ c.in_ok-name.ensures.grows c.in_err-listed.ensures.grows

pub returns-clause-grows : goal.returns-clause-grows
returns-clause-grows c = grows_trans _ _ _ c.in_ok-name.ensures.grows c.in_ok-listed.ensures.grows

pub returns-clause-went : goal.returns-clause-went
returns-clause-went c = record {
  further = omega (arith, c.in_ok-name.ensures.went.further, c.in_ok-listed.ensures.went.further);
  within = omega (arith, c.in_ok-listed.ensures.went.within);
  numbered = omega (arith, c.in_ok-name.ensures.went.numbered, c.in_ok-listed.ensures.went.numbered);
  few = omega (arith, c.in_ok-name.ensures.went.few, c.in_ok-listed.ensures.went.few);
}

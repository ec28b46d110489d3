use Rattle.std.proofs.Common.{refl, ◌+◌, arith}
use Rattle.shade_ast.specs.declared.lexeme.Sign.TheVariants as sign
use Rattle.shade_ast.specs.Lexemes.{Mark}
use Rattle.shade_ast.specs.Statements.{AttrArguments}
use Rattle.shade_cursor.specs.Shown.{lexemes}
use Rattle.shade_parse_expr.proofs.Turns.{errs}
use Rattle.shade_parse_simple.proofs.Faulty.{within, fault_in}
use Rattle.shade_parse_simple.proofs.Openings.{arguments_opens, opened_fails, Arguments}
use Rattle.shade_parse_simple.proofs.AttributeTrees.{arguments_tree}
use Rattle.shade_parse_simple.proofs.attributes.maybe_arguments.Goals as goal

pub returns-in_err-list-clause-tree : goal.returns-in_err-list-clause-tree
returns-in_err-list-clause-tree c = errs _ c.in_err-list.field-0.0 _ _ c.from_residual.ensures.1
    (fault_in AttrArguments Arguments 0 0 (lexemes c.args.pieces.now) c.args.names.now c.args.names.now _ c.args.from (c.args.from + 1) (omega arith) (Mark sign.Open)
    (_, c.in-Some.ensures.value) (omega arith) c.in_err-list.field-0.0
    (λ to f. opened_fails arguments_opens (omega arith) (within c.args.pieces.now c.args.from c.requires.can.within) (λ p. refl) _ c.in-Some.ensures.value f) c.in_err-list.ensures.tree)

pub returns-clause-tree : goal.returns-clause-tree
returns-clause-tree c = arguments_tree (within c.args.pieces.now c.args.from c.requires.can.within) c.in-Some.ensures.value (omega (arith, c.in_ok-list.ensures.went.further)) c.in_ok-list.ensures.tree

pub returns-clause-went : goal.returns-clause-went
returns-clause-went c = record {
  further = omega (arith, c.in_ok-list.ensures.went.further);
  within = omega (arith, c.in_ok-list.ensures.went.within);
  numbered = omega (arith, c.in_ok-list.ensures.went.numbered);
  few = omega (arith, c.in_ok-list.ensures.went.few);
}

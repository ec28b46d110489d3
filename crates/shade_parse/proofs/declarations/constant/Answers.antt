use Rattle.std.proofs.Common.{arith}
use Rattle.shade_parse_simple.specs.Rests.{Bound}
use Rattle.shade_parse.specs.Rests.{ConstRest}
use Rattle.shade_cursor.specs.declared.part.Fault.TheVariants as fault
use Rattle.shade_cursor.specs.Shown.{lexemes}
use Rattle.shade_parse_expr.proofs.Turns.{errs, fault_on, fails_here}
use Rattle.shade_parse_simple.proofs.Faulty.{within}
use Rattle.shade_ast.specs.Shapes.{const_decl}
use Rattle.shade_ast.proofs.Stages.{begin}
use Rattle.shade_parse.proofs.PlainLaws.{closed_fails, closed_stuck}
use Rattle.shade_parse.proofs.DeclarationTrees.{const_tree}
use Rattle.shade_parse.proofs.declarations.constant.Goals as goal

pub returns-in_err-binding-clause-tree : goal.returns-in_err-binding-clause-tree
returns-in_err-binding-clause-tree c = errs _ c.in_err-binding.field-0.0 _ _ c.from_residual.ensures.1
    (fault_on (ConstRest c.args.place) (Bound c.args.place) 0 7 (lexemes c.args.pieces.now) c.args.names.now c.args.names.now _ c.args.from c.args.from c.in_err-binding.field-0.0
    (omega arith)
    (λ to f. closed_fails (Bound c.args.place) (const_decl c.args.place) (omega arith)
    (begin (ConstRest c.args.place) 0 (lexemes c.args.pieces.now) c.args.from (within c.args.pieces.now c.args.from c.requires.can.within)) f) c.in_err-binding.ensures.tree)

pub returns-in_default-clause-tree : goal.returns-in_default-clause-tree
returns-in_default-clause-tree c = errs _ (fault.Unexpected (c.in_ok-binding.binding.end)) _ _ c.refuse.ensures
    (fails_here (ConstRest c.args.place) 0 (lexemes c.args.pieces.now) c.args.names.now c.bound.new.names c.args.from c.in_ok-binding.binding.end
    (omega (arith, c.in_ok-binding.ensures.went.few))
    (closed_stuck (Bound c.args.place) (const_decl c.args.place) (omega arith)
    (begin (ConstRest c.args.place) 0 (lexemes c.args.pieces.now) c.args.from (within c.args.pieces.now c.args.from c.requires.can.within)) c.in_ok-binding.ensures.tree.reads
    c.in_default.ensures.value))

pub returns-clause-tree : goal.returns-clause-tree
returns-clause-tree c = const_tree (within c.args.pieces.now c.args.from c.requires.can.within) c.in_ok-binding.ensures.tree c.in-Some.ensures.value

pub returns-clause-went : goal.returns-clause-went
returns-clause-went c = record {
  further = omega (arith, c.in_ok-binding.ensures.went.further);
  within = omega (arith, c.in-Some.ensures.within);
  numbered = omega (arith, c.in_ok-binding.ensures.went.numbered);
  few = omega (arith, c.in_ok-binding.ensures.went.few);
}

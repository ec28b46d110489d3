use Rattle.std.proofs.Common.{refl, arith}
use Rattle.shade_ast.specs.Statements.{Name, AttrName}
use Rattle.shade_cursor.specs.Shown.{lexemes}
use Rattle.shade_parse_expr.proofs.Turns.{errs, fault_on}
use Rattle.shade_parse_simple.proofs.Faulty.{within}
use Rattle.shade_parse_simple.proofs.AttributeLaws.{attr_diagnostic_reads, attr_const_reads, attr_name_fails, attr_name_reads}
use Rattle.shade_parse_simple.proofs.attributes.attr_name.Goals as goal

pub returns-in-Some-clause-tree : goal.returns-in-Some-clause-tree
returns-in-Some-clause-tree c = record { reads = attr_diagnostic_reads (within c.args.pieces.now c.args.from c.requires.can.within) _ c.in-Some.ensures.value; known = omega arith; nodes = refl }

pub returns-in-Some-key_at-clause-tree : goal.returns-in-Some-key_at-clause-tree
returns-in-Some-key_at-clause-tree c = record { reads = attr_const_reads (within c.args.pieces.now c.args.from c.requires.can.within) c.in_default.ensures.value _ c.in-Some-key_at.ensures.value; known = omega arith; nodes = refl }

pub returns-in_err-name-clause-tree : goal.returns-in_err-name-clause-tree
returns-in_err-name-clause-tree c = errs _ c.in_err-name.field-0.0 _ _ c.from_residual.ensures.1
    (fault_on AttrName Name 0 0 (lexemes c.args.pieces.now) c.args.names.now c.args.names.now _ c.args.from c.args.from c.in_err-name.field-0.0 (omega arith)
    (λ to f. attr_name_fails (within c.args.pieces.now c.args.from c.requires.can.within) c.in_default.ensures.value c.in_default-key_at.ensures.value f) c.in_err-name.ensures.tree)

pub returns-clause-tree : goal.returns-clause-tree
returns-clause-tree c = record { reads = attr_name_reads (within c.args.pieces.now c.args.from c.requires.can.within) c.in_default.ensures.value c.in_default-key_at.ensures.value c.in_ok-name.ensures.tree.reads; known = c.in_ok-name.ensures.tree.known; nodes = c.in_ok-name.ensures.tree.nodes }

pub returns-clause-went : goal.returns-clause-went
returns-clause-went c = record {
  further = omega (arith, c.in_ok-name.ensures.went.further);
  within = omega (arith, c.in_ok-name.ensures.went.within);
  numbered = omega (arith, c.in_ok-name.ensures.went.numbered);
  few = omega (arith, c.in_ok-name.ensures.went.few);
}

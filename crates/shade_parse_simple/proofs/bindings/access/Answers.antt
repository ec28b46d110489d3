use Rattle.std.proofs.Common.{refl, ◌+◌, arith}
use Rattle.shade_ast.specs.declared.lexeme.Sign.TheVariants as sign
use Rattle.shade_ast.specs.Statements.{Name}
use Rattle.shade_parse_simple.specs.Rests.{Ending, SpaceEnd}
use Rattle.shade_cursor.specs.Shown.{lexemes}
use Rattle.shade_parse_expr.proofs.Turns.{errs, fault_on, fails_here}
use Rattle.shade_parse_simple.proofs.Faulty.{within, reads_to, fault_plain}
use Rattle.shade_parse_simple.proofs.BindingTrees.{access_tree}
use Rattle.shade_parse_simple.proofs.Endings.{space_now, space_stuck, space_comma_close, space_name_fails, space_end_fails}
use Rattle.shade_parse_simple.proofs.bindings.access.Goals as goal

pub returns-in-Some-clause-tree : goal.returns-in-Some-clause-tree
returns-in-Some-clause-tree c = record { reads = space_now (within c.args.pieces.now c.args.from c.requires.can.within) _ c.in-Some.ensures.value; known = omega arith; nodes = refl }

pub returns-in_default-mark_at-clause-tree : goal.returns-in_default-mark_at-clause-tree
returns-in_default-mark_at-clause-tree c = fails_here SpaceEnd 0 (lexemes c.args.pieces.now) c.args.names.now c.args.names.now c.args.from c.args.from (omega arith)
    (space_stuck (within c.args.pieces.now c.args.from c.requires.can.within) c.in_default.ensures.value c.in_default-mark_at.ensures.value)

pub returns-in-Some-mark_at-2-clause-tree : goal.returns-in-Some-mark_at-2-clause-tree
returns-in-Some-mark_at-2-clause-tree c = record {
  reads = reads_to (c.args.from + 1 + 1) (c.args.from + 2) (omega arith)
      (space_comma_close (within c.args.pieces.now c.args.from c.requires.can.within) c.in_default.ensures.value _ c.in-Some-mark_at.ensures.value _ c.in-Some-mark_at-2.ensures.value);
  known =
      omega arith;
  nodes = refl;
}

pub returns-in_err-name-clause-tree : goal.returns-in_err-name-clause-tree
returns-in_err-name-clause-tree c = errs _ c.in_err-name.field-0.0 _ _ c.from_residual.ensures.1
    (fault_on SpaceEnd Name 0 0 (lexemes c.args.pieces.now) c.args.names.now c.args.names.now _ c.args.from (c.args.from + 1) c.in_err-name.field-0.0 (omega arith)
    (λ to f. space_name_fails (within c.args.pieces.now c.args.from c.requires.can.within) c.in_default.ensures.value _ c.in-Some-mark_at.ensures.value c.in_default-mark_at-2.ensures.value f)
    c.in_err-name.ensures.tree)

pub returns-in_err-trailing-clause-tree : goal.returns-in_err-trailing-clause-tree
returns-in_err-trailing-clause-tree c = errs _ c.in_err-trailing.field-0.0 _ _ c.from_residual-in_err-trailing.ensures.1
    (fault_plain SpaceEnd (Ending sign.CloseTemplate) 0 0 (lexemes c.args.pieces.now) c.args.names.now _ c.args.from c.in_ok-name.name.end c.in_err-trailing.field-0.0
    (omega (arith, c.in_ok-name.ensures.went.few)) (within c.args.pieces.now c.in_ok-name.name.end c.in_ok-name.ensures.went.within)
    (λ to f. space_end_fails (within c.args.pieces.now c.args.from c.requires.can.within) c.in_default.ensures.value _ c.in-Some-mark_at.ensures.value c.in_default-mark_at-2.ensures.value
    c.in_ok-name.ensures.tree.reads f) c.in_err-trailing.ensures.tree)

pub returns-clause-tree : goal.returns-clause-tree
returns-clause-tree c = access_tree (within c.args.pieces.now c.args.from c.requires.can.within) c.in_default.ensures.value c.in-Some-mark_at.ensures.value c.in_default-mark_at-2.ensures.value c.in_ok-name.ensures.tree c.in_ok-trailing.ensures.tree

pub closed-requires-clause-within : goal.closed-requires-clause-within
closed-requires-clause-within c = omega (arith, c.in_ok-name.ensures.went.within)

pub returns-clause-went : goal.returns-clause-went
returns-clause-went c = record {
  further = omega (arith, c.in_ok-name.ensures.went.further, c.in_ok-trailing.ensures.further, c.in_ok-trailing.ensures.within);
  within = omega (arith, c.in_ok-trailing.ensures.further, c.in_ok-trailing.ensures.within);
  numbered = omega (arith, c.in_ok-name.ensures.went.numbered, c.in_ok-trailing.ensures.further, c.in_ok-trailing.ensures.within);
  few = omega (arith, c.in_ok-name.ensures.went.few, c.in_ok-trailing.ensures.further, c.in_ok-trailing.ensures.within);
}

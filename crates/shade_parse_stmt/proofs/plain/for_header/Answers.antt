use Rattle.std.proofs.Common.{refl, ◌+◌, arith}
use Rattle.std.proofs.lemmas.List.{length-map}
use Rattle.shade_parse_stmt.specs.Follows.{Anything}
use Rattle.shade_parse_stmt.specs.StatementParts.{UntilValue, UntilSimple, UntilUpdate, ForHead}
use Rattle.shade_ast.proofs.ShapeLaws.{grows_trans}
use Rattle.shade_cursor.specs.Shown.{lexeme, lexemes}
use Rattle.shade_cursor.proofs.Tokens.{isnt}
use Rattle.shade_parse_stmt.proofs.Handing.{errs, fault_by, fails_here}
use Rattle.shade_parse_stmt.proofs.Fors.{for_stuck, initial_fails, condition_fails, update_fails, for_head_tree}
use Rattle.shade_parse_stmt.proofs.plain.for_header.Goals as goal

pub returns-then-not-is_mark-clause-tree : goal.returns-then-not-is_mark-clause-tree
returns-then-not-is_mark-clause-tree c = fails_here ForHead Anything (lexemes c.args.pieces.now) c.args.names.now _ c.args.from c.args.from (omega (arith))
    (for_stuck (lexemes c.args.pieces.now) c.args.from (omega (arith, length-map c.args.pieces.now lexeme, c.requires.can.within)) (λ p is. isnt c.if-not-is_mark.ensures.value (p, is)))

pub returns-in_err-first-clause-tree : goal.returns-in_err-first-clause-tree
returns-in_err-first-clause-tree c = errs _ c.in_err-first.field-0.0 _ _ c.from_residual.ensures.1
    (fault_by ForHead UntilSimple Anything Anything (lexemes c.args.pieces.now) c.args.names.now c.args.names.now _ c.args.from (c.args.from + 1) c.in_err-first.field-0.0 (omega (arith))
    (λ to x. initial_fails (lexemes c.args.pieces.now) c.args.from (omega (arith, length-map c.args.pieces.now lexeme, c.requires.can.within)) (c.if-not-is_mark.ensures.value.0 refl).0
    (c.if-not-is_mark.ensures.value.0 refl).1 to x) c.in_err-first.ensures.tree)

pub returns-in_err-initial-clause-tree : goal.returns-in_err-initial-clause-tree
returns-in_err-initial-clause-tree c = errs _ c.in_err-initial.field-0.0 _ _ c.from_residual-in_err-initial.ensures.1
    (fault_by ForHead UntilValue Anything Anything (lexemes c.args.pieces.now) c.args.names.now _ _ c.args.from c.in_ok-first.first.end c.in_err-initial.field-0.0
    (omega (arith, c.in_ok-first.ensures.went.few))
    (λ to x. condition_fails (lexemes c.args.pieces.now) c.args.from (omega (arith, length-map c.args.pieces.now lexeme, c.requires.can.within)) (c.if-not-is_mark.ensures.value.0 refl).0
    (c.if-not-is_mark.ensures.value.0 refl).1 _ c.args.node c.in_ok-first.first c.in_ok-first.ensures.tree to x) c.in_err-initial.ensures.tree)

pub returns-in_err-parts-clause-tree : goal.returns-in_err-parts-clause-tree
returns-in_err-parts-clause-tree c = errs _ c.in_err-parts.field-0.0 _ _ c.from_residual-in_err-parts.ensures.1
    (fault_by ForHead UntilUpdate Anything Anything (lexemes c.args.pieces.now) c.args.names.now _ _ c.args.from c.in_ok-initial.second.end c.in_err-parts.field-0.0
    (omega (arith, c.in_ok-first.ensures.went.few, c.in_ok-initial.ensures.went.few))
    (λ to x. update_fails (lexemes c.args.pieces.now) c.args.from (omega (arith, length-map c.args.pieces.now lexeme, c.requires.can.within)) (c.if-not-is_mark.ensures.value.0 refl).0
    (c.if-not-is_mark.ensures.value.0 refl).1 _ _ c.args.node c.in_ok-first.first c.in_ok-first.ensures.tree c.in_ok-initial.ensures.grows c.in_ok-initial.second
    c.in_ok-initial.ensures.tree to x) c.in_err-parts.ensures.tree)

pub returns-clause-tree : goal.returns-clause-tree
returns-clause-tree c = for_head_tree (lexemes c.args.pieces.now) c.args.from (omega (arith, length-map c.args.pieces.now lexeme, c.requires.can.within))
    (c.if-not-is_mark.ensures.value.0 refl).0 (c.if-not-is_mark.ensures.value.0 refl).1 _ _ _ c.args.node c.in_ok-first.first c.in_ok-first.ensures.tree c.in_ok-initial.ensures.grows
    c.in_ok-initial.second c.in_ok-initial.ensures.tree c.in_ok-parts.ensures.grows c.in_ok-parts.last c.in_ok-parts.ensures.tree c.in_ok-initial.initial c.in_ok-initial.ensures.kept
    c.in_ok-parts.parts c.in_ok-parts.ensures.kept

pub value_behind-requires : goal.value_behind-requires
value_behind-requires c = record {
  can = record {
    within = omega (arith, c.in_ok-first.ensures.went.within);
    numbered = omega (arith, c.in_ok-first.ensures.went.numbered);
    few = omega (arith, c.in_ok-first.ensures.went.few);
  };
}

pub returns-in_err-initial-clause-grows : goal.returns-in_err-initial-clause-grows
returns-in_err-initial-clause-grows c = grows_trans _ _ _ c.in_ok-first.ensures.grows c.in_err-initial.ensures.grows

pub update_behind-requires : goal.update_behind-requires
update_behind-requires c = record {
  can = record {
    within = omega (arith, c.in_ok-initial.ensures.went.within);
    numbered = omega (arith, c.in_ok-first.ensures.went.numbered, c.in_ok-initial.ensures.went.numbered);
    few = omega (arith, c.in_ok-first.ensures.went.few, c.in_ok-initial.ensures.went.few);
  };
}

pub returns-in_err-parts-clause-grows : goal.returns-in_err-parts-clause-grows
returns-in_err-parts-clause-grows c = grows_trans _ _ _ c.in_ok-first.ensures.grows (grows_trans _ _ _ c.in_ok-initial.ensures.grows c.in_err-parts.ensures.grows)

pub returns-clause-grows : goal.returns-clause-grows
returns-clause-grows c = grows_trans _ _ _ c.in_ok-first.ensures.grows (grows_trans _ _ _ c.in_ok-initial.ensures.grows c.in_ok-parts.ensures.grows)

pub returns-clause-went : goal.returns-clause-went
returns-clause-went c = record {
  further = omega (arith, c.in_ok-first.ensures.went.further, c.in_ok-initial.ensures.went.further, c.in_ok-parts.ensures.went.further);
  within = omega (arith, c.in_ok-parts.ensures.went.within);
  numbered = omega (arith, c.in_ok-first.ensures.went.numbered, c.in_ok-initial.ensures.went.numbered, c.in_ok-parts.ensures.went.numbered);
  few = omega (arith, c.in_ok-first.ensures.went.few, c.in_ok-initial.ensures.went.few, c.in_ok-parts.ensures.went.few);
}

use Rattle.std.proofs.Common.{refl, ◌+◌, arith, ap, ◌≡◌}
use Rattle.std.proofs.lemmas.List.{length-map}
use Rattle.shade_parse_stmt.specs.Follows.{Anything}
use Rattle.shade_parse_stmt.specs.StatementParts.{ValueEnd, UntilValue, SimpleEnd, Plain}
use Rattle.shade_cursor.specs.Shown.{lexeme, lexemes}
use Rattle.shade_cursor.proofs.Tokens.{isnt}
use Rattle.shade_parse_stmt.proofs.Handing.{errs, answers, fault_by, fails_here}
use Rattle.shade_parse_stmt.proofs.PlainHeads.{plain_empty, jump_open, jump_tree, return_fails, return_tree, assert_fails, assert_tree, plain_simple_fails, plain_simple_tree}
use Rattle.shade_parse_stmt.proofs.plain.plain.Goals as goal

pub returns-in-Some-clause-tree : goal.returns-in-Some-clause-tree
returns-in-Some-clause-tree c = plain_empty (lexemes c.args.pieces.now) c.args.from (omega (arith, length-map c.args.pieces.now lexeme, c.requires.can.within)) c.args.names.now c.args.node c.in-Some.place c.in-Some.ensures.value _ c.statement_of.ensures

pub returns-then-not-is_mark-clause-tree : goal.returns-then-not-is_mark-clause-tree
returns-then-not-is_mark-clause-tree c = fails_here Plain Anything (lexemes c.args.pieces.now) c.args.names.now _ c.args.from (c.args.from + 1) (omega (arith))
    (jump_open (lexemes c.args.pieces.now) c.args.from (omega (arith, length-map c.args.pieces.now lexeme, c.requires.can.within)) c.in-Some-jump_at.jump c.in-Some-jump_at.place
    c.in-Some-jump_at.ensures.value (λ p is. isnt c.if-not-is_mark.ensures.value (p, is)))

pub returns-in-Some-jump_at-clause-tree : goal.returns-in-Some-jump_at-clause-tree
returns-in-Some-jump_at-clause-tree c = jump_tree (lexemes c.args.pieces.now) c.args.from (omega (arith, length-map c.args.pieces.now lexeme, c.requires.can.within)) c.in-Some-jump_at.jump
    c.in-Some-jump_at.place c.in-Some-jump_at.ensures.value c.args.names.now c.args.node (c.if-not-is_mark.ensures.value.0 refl).0 (c.if-not-is_mark.ensures.value.0 refl).1 _
    c.jump_kind.ensures _ c.statement_of-in-Some-jump_at.ensures

pub returns-in_err-value-clause-tree : goal.returns-in_err-value-clause-tree
returns-in_err-value-clause-tree c = errs _ c.in_err-value.field-0.0 _ _ c.from_residual.ensures.1
    (fault_by Plain UntilValue Anything Anything (lexemes c.args.pieces.now) c.args.names.now c.args.names.now _ c.args.from (c.args.from + 1) c.in_err-value.field-0.0 (omega (arith))
    (λ to x. return_fails (lexemes c.args.pieces.now) c.args.from (omega (arith, length-map c.args.pieces.now lexeme, c.requires.can.within)) c.in-Some-key_at.place
    c.in-Some-key_at.ensures.value to x) c.in_err-value.ensures.tree)

pub returns-in-Some-key_at-clause-tree : goal.returns-in-Some-key_at-clause-tree
returns-in-Some-key_at-clause-tree c = return_tree (lexemes c.args.pieces.now) c.args.from (omega (arith, length-map c.args.pieces.now lexeme, c.requires.can.within)) c.in-Some-key_at.place
    c.in-Some-key_at.ensures.value _ c.args.node c.in_ok-value.value c.in_ok-value.ensures.tree _ c.statement_of-in-Some-key_at.ensures

pub returns-in_err-condition-clause-tree : goal.returns-in_err-condition-clause-tree
returns-in_err-condition-clause-tree c = errs _ c.in_err-condition.field-0.0 _ _ c.from_residual-in_err-condition.ensures.1
    (fault_by Plain ValueEnd Anything Anything (lexemes c.args.pieces.now) c.args.names.now c.args.names.now _ c.args.from (c.args.from + 1) c.in_err-condition.field-0.0 (omega (arith))
    (λ to x. assert_fails (lexemes c.args.pieces.now) c.args.from (omega (arith, length-map c.args.pieces.now lexeme, c.requires.can.within)) c.in-Some-key_at-2.place
    c.in-Some-key_at-2.ensures.value to x) c.in_err-condition.ensures.tree)

pub returns-in-Some-key_at-2-clause-tree : goal.returns-in-Some-key_at-2-clause-tree
returns-in-Some-key_at-2-clause-tree c = assert_tree (lexemes c.args.pieces.now) c.args.from (omega (arith, length-map c.args.pieces.now lexeme, c.requires.can.within)) c.in-Some-key_at-2.place
    c.in-Some-key_at-2.ensures.value _ c.args.node c.in_ok-condition.condition c.in_ok-condition.ensures.tree _ c.statement_of-in-Some-key_at-2.ensures

pub returns-clause-tree : goal.returns-clause-tree
returns-clause-tree c = answers c.simple_end.result _ _ _ _
    (λ s x. plain_simple_tree (lexemes c.args.pieces.now) c.args.from (omega (arith, length-map c.args.pieces.now lexeme, c.requires.can.within)) (λ p is. c.in_default.ensures.value p is)
    c.in_default-jump_at.ensures.value (λ p is. c.in_default-key_at.ensures.value p is) (λ p is. c.in_default-key_at-2.ensures.value p is) _ c.args.node s x)
    (λ f x. fault_by Plain SimpleEnd Anything Anything (lexemes c.args.pieces.now) c.args.names.now c.args.names.now _ c.args.from c.args.from f (omega arith)
    (λ to y. plain_simple_fails (lexemes c.args.pieces.now) c.args.from (omega (arith, length-map c.args.pieces.now lexeme, c.requires.can.within)) (λ p is. c.in_default.ensures.value p is)
    c.in_default-jump_at.ensures.value (λ p is. c.in_default-key_at.ensures.value p is) (λ p is. c.in_default-key_at-2.ensures.value p is) to y) x) c.simple_end.ensures.tree

pub returns-in-Some-key_at-clause-went : goal.returns-in-Some-key_at-clause-went
returns-in-Some-key_at-clause-went c =
    let end : c.statement_of-in-Some-key_at.result.end ≡ c.in_ok-value.value.end = ap (λ y. y.end) c.statement_of-in-Some-key_at.ensures in
    let node : c.statement_of-in-Some-key_at.result.node ≡ c.in_ok-value.value.node + 1 = ap (λ y. y.node) c.statement_of-in-Some-key_at.ensures in
    record {
      further = omega (arith, c.in_ok-value.ensures.went.further);
      within = omega (arith, c.in_ok-value.ensures.went.within);
      numbered = omega (arith, c.in_ok-value.ensures.went.numbered);
      few = omega (arith, c.in_ok-value.ensures.went.few);
    }

pub returns-in-Some-key_at-2-clause-went : goal.returns-in-Some-key_at-2-clause-went
returns-in-Some-key_at-2-clause-went c =
    let end : c.statement_of-in-Some-key_at-2.result.end ≡ c.in_ok-condition.condition.end = ap (λ y. y.end) c.statement_of-in-Some-key_at-2.ensures in
    let node : c.statement_of-in-Some-key_at-2.result.node ≡ c.in_ok-condition.condition.node + 1 = ap (λ y. y.node) c.statement_of-in-Some-key_at-2.ensures in
    record {
      further = omega (arith, c.in_ok-condition.ensures.went.further);
      within = omega (arith, c.in_ok-condition.ensures.went.within);
      numbered = omega (arith, c.in_ok-condition.ensures.node);
      few = omega (arith, c.in_ok-condition.ensures.went.few);
    }

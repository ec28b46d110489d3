use Rattle.std.proofs.Common.{refl, arith, ◌∙◌}
use Rattle.std.proofs.lemmas.List.{length-map}
use Rattle.shade_ast.specs.Statements.{SimpleStatement}
use Rattle.shade_ast.specs.declared.stmt.Simple.{Simple}
use Rattle.shade_parse_simple.specs.declared.read.Read.{Read}
use Rattle.shade_parse_stmt.specs.Follows.{Above, Anything}
use Rattle.shade_parse_stmt.specs.StatementParts.{UntilSimple}
use Rattle.shade_cursor.specs.Shown.{lexeme, lexemes}
use Rattle.shade_cursor.proofs.Tokens.{isnt}
use Rattle.shade_parse_stmt.proofs.Handing.{errs, fault_by, ranked, unexpected}
use Rattle.shade_parse_stmt.proofs.Plains.{maybe_simple_fails, maybe_simple_open, no_simple_tree, some_simple_tree}
use Rattle.shade_parse_stmt.proofs.plain.simple_until.Goals as goal

pub returns-then-is_mark-clause-tree : goal.returns-then-is_mark-clause-tree
returns-then-is_mark-clause-tree c = no_simple_tree (lexemes c.args.pieces.now) c.args.from (omega (arith, length-map c.args.pieces.now lexeme, c.requires.can.within)) c.args.names.now c.args.node (c.if-is_mark.ensures.value.0 refl).0 (c.if-is_mark.ensures.value.0 refl).1

pub returns-in_err-part-clause-tree : goal.returns-in_err-part-clause-tree
returns-in_err-part-clause-tree c = errs _ c.in_err-part.field-0.0 _ _ c.from_residual.ensures.1
    (fault_by UntilSimple SimpleStatement Anything (Above 8) (lexemes c.args.pieces.now) c.args.names.now c.args.names.now _ c.args.from c.args.from c.in_err-part.field-0.0 (omega (arith))
    (λ to x. maybe_simple_fails (lexemes c.args.pieces.now) c.args.from (omega (arith, length-map c.args.pieces.now lexeme, c.requires.can.within))
    (λ p is. isnt c.if-is_mark.ensures.value (p, is)) to x)
    (ranked SimpleStatement 8 (lexemes c.args.pieces.now) c.args.names.now _ c.args.from c.in_err-part.field-0.0 c.in_err-part.ensures.tree))

pub returns-in_err-whole-clause-tree : goal.returns-in_err-whole-clause-tree
returns-in_err-whole-clause-tree c = errs _ c.in_err-whole.field-0.0 _ _ c.from_residual-in_err-whole.ensures.1
    (unexpected UntilSimple Anything (lexemes c.args.pieces.now) c.args.names.now _ c.args.from c.in_ok-part.part.end c.in_err-whole.field-0.0 c.in_err-whole.ensures.fault
    (omega (arith, c.in_ok-part.ensures.went.few))
    (maybe_simple_open (lexemes c.args.pieces.now) c.args.from (omega (arith, length-map c.args.pieces.now lexeme, c.requires.can.within)) (λ p is. isnt c.if-is_mark.ensures.value (p, is)) _
    c.args.node c.in_ok-part.part c.in_ok-part.ensures.tree (λ p is. c.in_err-whole.ensures.mark p is)))

pub returns-clause-tree : goal.returns-clause-tree
returns-clause-tree c =
    let boxed : Read Simple = record { tree = c.in_ok-simple.simple; end = c.in_ok-whole.whole.end; node = c.in_ok-whole.whole.node } in
    some_simple_tree (lexemes c.args.pieces.now) c.args.from (omega (arith, length-map c.args.pieces.now lexeme, c.requires.can.within))
    (λ p is. isnt c.if-is_mark.ensures.value (p, is)) _ c.args.node c.in_ok-part.part c.in_ok-part.ensures.tree c.in_ok-whole.ensures.mark.0 c.in_ok-whole.ensures.mark.1 boxed (c.in_ok-simple.ensures ∙ c.in_ok-whole.ensures.fault) c.in_ok-whole.ensures.end c.in_ok-whole.ensures.node

pub returns-clause-went : goal.returns-clause-went
returns-clause-went c = record {
  further = omega (arith, c.in_ok-part.ensures.went.further, c.in_ok-whole.ensures.end, c.in_ok-whole.ensures.node, c.in_ok-whole.ensures.within);
  within = omega (arith, c.in_ok-whole.ensures.end, c.in_ok-whole.ensures.node, c.in_ok-whole.ensures.within);
  numbered = omega (arith, c.in_ok-part.ensures.went.numbered, c.in_ok-whole.ensures.end, c.in_ok-whole.ensures.node, c.in_ok-whole.ensures.within);
  few = omega (arith, c.in_ok-part.ensures.went.few, c.in_ok-whole.ensures.end, c.in_ok-whole.ensures.node, c.in_ok-whole.ensures.within);
}

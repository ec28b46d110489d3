use Rattle.std.proofs.Common.{arith, ap, sym, ◌∙◌, ◌≡◌, ◌+◌}
use Rattle.std.proofs.lemmas.List.{length-map}
use Rattle.shade_ast.specs.Statements.{SimpleStatement}
use Rattle.shade_ast.specs.declared.stmt.Simple.{Simple}
use Rattle.shade_parse_simple.specs.declared.read.Read.{Read}
use Rattle.shade_parse_stmt.specs.Trees.{simple_first}
use Rattle.shade_parse_stmt.specs.Follows.{Above, Anything}
use Rattle.shade_parse_stmt.specs.StatementParts.{SimpleEnd}
use Rattle.shade_cursor.specs.Shown.{lexeme, lexemes}
use Rattle.shade_parse_stmt.proofs.Handing.{errs, fault_by, ranked, unexpected}
use Rattle.shade_parse_stmt.proofs.Plains.{simple_end_fails, simple_end_open, simple_end_tree}
use Rattle.shade_parse_stmt.proofs.plain.simple_end.Goals as goal

pub returns-in_err-part-clause-tree : goal.returns-in_err-part-clause-tree
returns-in_err-part-clause-tree c = errs _ c.in_err-part.field-0.0 _ _ c.from_residual.ensures.1
    (fault_by SimpleEnd SimpleStatement Anything (Above 8) (lexemes c.args.pieces.now) c.args.names.now c.args.names.now _ c.args.from c.args.from c.in_err-part.field-0.0 (omega (arith))
    (λ to x. simple_end_fails (lexemes c.args.pieces.now) c.args.from (omega (arith, length-map c.args.pieces.now lexeme, c.requires.can.within)) to x)
    (ranked SimpleStatement 8 (lexemes c.args.pieces.now) c.args.names.now _ c.args.from c.in_err-part.field-0.0 c.in_err-part.ensures.tree))

pub returns-in_err-whole-clause-tree : goal.returns-in_err-whole-clause-tree
returns-in_err-whole-clause-tree c = errs _ c.in_err-whole.field-0.0 _ _ c.from_residual-in_err-whole.ensures.1
    (unexpected SimpleEnd Anything (lexemes c.args.pieces.now) c.args.names.now _ c.args.from c.in_ok-part.part.end c.in_err-whole.field-0.0 c.in_err-whole.ensures.fault
    (omega (arith, c.in_ok-part.ensures.went.few))
    (simple_end_open (lexemes c.args.pieces.now) c.args.from (omega (arith, length-map c.args.pieces.now lexeme, c.requires.can.within)) _ c.args.node c.in_ok-part.part
    c.in_ok-part.ensures.tree (λ p is. c.in_err-whole.ensures.mark p is)))

pub returns-clause-tree : goal.returns-clause-tree
returns-clause-tree c =
    let boxed : Read Simple = record { tree = c.in_ok-simple.simple; end = c.in_ok-whole.whole.end; node = c.in_ok-whole.whole.node } in
    simple_end_tree (lexemes c.args.pieces.now) c.args.from (omega (arith, length-map c.args.pieces.now lexeme, c.requires.can.within)) _ c.args.node c.in_ok-part.part
    c.in_ok-part.ensures.tree c.in_ok-whole.ensures.mark.0 c.in_ok-whole.ensures.mark.1 boxed (c.in_ok-simple.ensures ∙ c.in_ok-whole.ensures.fault) c.in_ok-whole.ensures.end c.in_ok-whole.ensures.node _
    (c.simple_place-place.ensures ∙ ap simple_first (sym c.in_ok-simple.ensures)) _ c.statement_of.ensures

pub returns-clause-went : goal.returns-clause-went
returns-clause-went c =
    let end : c.statement_of.result.end ≡ c.in_ok-whole.whole.end = ap (λ y. y.end) c.statement_of.ensures in
    let node : c.statement_of.result.node ≡ c.in_ok-whole.whole.node + 1 = ap (λ y. y.node) c.statement_of.ensures in
    record {
      further = omega (arith, c.in_ok-part.ensures.went.further, c.in_ok-whole.ensures.end, c.in_ok-whole.ensures.node, c.in_ok-whole.ensures.within);
      within = omega (arith, c.in_ok-whole.ensures.end, c.in_ok-whole.ensures.node, c.in_ok-whole.ensures.within);
      numbered = omega (arith, c.in_ok-part.ensures.went.numbered, c.in_ok-whole.ensures.end, c.in_ok-whole.ensures.node, c.in_ok-whole.ensures.within);
      few = omega (arith, c.in_ok-part.ensures.went.few, c.in_ok-whole.ensures.end, c.in_ok-whole.ensures.node, c.in_ok-whole.ensures.within);
    }

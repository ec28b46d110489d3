use Rattle.std.proofs.Common.{arith, ◌+◌}
use Rattle.shade_ast.specs.Steps.{MemberStep}
use Rattle.shade_ast.specs.Nodes.{expr_nodes}
use Rattle.shade_ast.specs.Shaped.{expr_shape}
use Rattle.shade_parse_expr.proofs.Accesses.{by_name_tree}
use Rattle.shade_parse_expr.proofs.Primaries.{by_name_fails}
use Rattle.shade_parse_expr.proofs.Readings.{builds}
use Rattle.shade_cursor.proofs.Tokens.{shown_within}
use Rattle.shade_parse_expr.proofs.Turns.{errs, fails_here, no_memory}
use Rattle.shade_cursor.specs.Shown.{lexeme, lexemes}
use Rattle.std.proofs.lemmas.List.{length-map}
use Rattle.shade_cursor.specs.declared.part.Fault.TheVariants as fault
use Rattle.shade_parse_expr.proofs.parse.by_name.Goals as goal

pub returns-in_default-clause-tree : goal.returns-in_default-clause-tree
returns-in_default-clause-tree c =
    let tokens = lexemes c.args.pieces.now in
    let whole_shape = expr_shape c.args.names.now c.args.whole.expr in
    errs _ (fault.Unexpected (c.args.whole.end + 1)) _ _ c.refuse.ensures
    (fails_here (MemberStep whole_shape c.args.dot) 1 tokens c.args.names.now c.args.names.now (c.args.whole.end + 1) (c.args.whole.end + 1) (omega arith)
    (by_name_fails whole_shape c.args.dot tokens (c.args.whole.end + 1) (shown_within c.args.pieces.now (c.args.whole.end + 1) c.requires.within) c.in_default.ensures.value))

pub returns-in-Err-clause-tree : goal.returns-in-Err-clause-tree
returns-in-Err-clause-tree c =
    let tokens = lexemes c.args.pieces.now in
    errs _ c.in-Err.fault _ _ c.refuse-in-Err.ensures
    (no_memory (MemberStep (expr_shape c.args.names.now c.args.whole.expr) c.args.dot) 1 tokens c.args.names.now c.number.new.names (c.args.whole.end + 1) c.in-Err.fault c.in-Err.ensures.text
    (omega (arith, c.number.ensures.few, c.in-Some.ensures.within, length-map c.args.pieces.now lexeme)))

pub returns-clause-tree : goal.returns-clause-tree
returns-clause-tree c =
    let tokens = lexemes c.args.pieces.now in
    let old = c.args.names.now in
    builds (MemberStep (expr_shape old c.args.whole.expr) c.args.dot) 1 tokens old c.number.new.names (expr_nodes c.args.whole.expr) (c.args.whole.end + 1) c.args.whole.node _ c.member.result
    (omega (arith, c.number.ensures.few, c.in-Some.ensures.within, length-map c.args.pieces.now lexeme))
    (λ p same. by_name_tree tokens old c.number.new.names c.args.whole c.requires.known c.requires.bare c.number.ensures.grows p c.args.dot c.in-Some.place c.in-Ok.name _ c.in-Some.ensures.value c.in-Ok.ensures.text same)
    c.member.ensures

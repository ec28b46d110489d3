use Rattle.std.proofs.Common.{arith, slice_get, ◌+◌, ◌≡◌, Some}
use Rattle.shade_ast.proofs.ShapeLaws.{grows_trans}
use Rattle.shade_ast.specs.Expressions.{Call, TypeName}
use Rattle.shade_ast.specs.Lexemes.{Mark}
use Rattle.shade_ast.specs.Shaped.{expr_shape}
use Rattle.shade_base.specs.declared.place.Place.{Place}
use Rattle.shade_parse_expr.proofs.Primaries.{call_fails, call_reads, call_stuck, call_type_fails}
use Rattle.shade_parse_expr.proofs.Readings.{goes_on}
use Rattle.shade_cursor.proofs.Tokens.{shown_within, told_none, told_some}
use Rattle.shade_parse_expr.proofs.Turns.{errs, fails_here, fault_on}
use Rattle.shade_parse_expr.specs.Rests.{Called}
use Rattle.shade_cursor.specs.Shown.{lexemes}
use Rattle.shade_ast.specs.declared.lexeme.Sign.TheVariants as sign
use Rattle.shade_cursor.specs.declared.part.Fault.TheVariants as fault
use Rattle.shade_parse_expr.proofs.parse.call_only.Goals as goal

pub returns-in_err-callee-clause-tree : goal.returns-in_err-callee-clause-tree
returns-in_err-callee-clause-tree c =
    let tokens = lexemes c.args.pieces.now in
    let within = shown_within c.args.pieces.now c.args.from c.requires.can.within in
    errs _ c.in_err-callee.field-0.0 _ _ c.from_residual.ensures.1 (fault_on Call TypeName 1 0 tokens c.args.names.now c.args.names.now _ c.args.from c.args.from c.in_err-callee.field-0.0 (omega arith) (λ to f. call_type_fails tokens c.args.from within to f) c.in_err-callee.ensures.tree)

pub returns-then-is_none-clause-tree : goal.returns-then-is_none-clause-tree
returns-then-is_none-clause-tree c =
    let tokens = lexemes c.args.pieces.now in
    let within = shown_within c.args.pieces.now c.args.from c.requires.can.within in
    errs _ (fault.Unexpected c.in_ok-callee.callee.end) _ _ c.refuse.ensures
    (fails_here Call 1 tokens c.args.names.now c.type_name.new.names c.args.from c.in_ok-callee.callee.end (omega (arith, c.in_ok-callee.ensures.went.few))
    (call_stuck tokens c.args.from within (expr_shape c.type_name.new.names c.in_ok-callee.callee.expr) c.in_ok-callee.callee.end c.in_ok-callee.ensures.tree.reads (λ q is. told_none _ _ _ c.if-is_none.ensures c.mark_at.ensures.value q is)))

pub returns-clause-tree : goal.returns-clause-tree
returns-clause-tree c =
    let tokens = lexemes c.args.pieces.now in
    let within = shown_within c.args.pieces.now c.args.from c.requires.can.within in
    let callee_shape = expr_shape c.type_name.new.names c.in_ok-callee.callee.expr in
    let m : (q : Place) × (slice_get tokens c.in_ok-callee.callee.end ≡ Some (Mark sign.Open q)) = told_some _ _ _ c.if-is_none.ensures c.mark_at.ensures.value in
    goes_on Call (Called callee_shape) 1 1 tokens c.args.names.now c.type_name.new.names c.called.new.names c.args.from c.args.node (c.in_ok-callee.callee.end + 1) c.in_ok-callee.callee c.called.result
    (omega (arith, c.in_ok-callee.ensures.went.few)) c.in_ok-callee.ensures.tree.nodes
    (λ e to y. call_reads tokens c.args.from within callee_shape c.in_ok-callee.callee.end c.in_ok-callee.ensures.tree.reads m.0 m.1 to e y)
    (λ to y. call_fails tokens c.args.from within callee_shape c.in_ok-callee.callee.end c.in_ok-callee.ensures.tree.reads m.0 m.1 to y)
    c.called.ensures.tree

pub returns-clause-grows : goal.returns-clause-grows
returns-clause-grows c = grows_trans _ _ _ c.in_ok-callee.ensures.grows c.called.ensures.grows

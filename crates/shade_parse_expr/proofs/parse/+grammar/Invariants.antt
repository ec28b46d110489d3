use Rattle.std.proofs.Common.{length, ◌+◌, ◌-◌, ◌*◌, []}
use Rattle.shade_ast.specs.Steps.{AccessStep, Factor, Term}
use Rattle.shade_ast.specs.Chains.{Tail}
use Rattle.shade_ast.specs.Expressions.{Additive, Multiplicative}
use Rattle.shade_ast.specs.Nodes.{expr_nodes}
use Rattle.shade_ast.specs.Shaped.{expr_shape}
use Rattle.shade_parse_expr.proofs.Turns.{ListTurn, Turn}
use Rattle.shade_parse_expr.specs.Rests.{Joining}
use Rattle.shade_cursor.specs.Shown.{lexemes}
use Rattle.shade_parse_expr.proofs.parse.+grammar.Given as goal

abbrev pub decreases-in_parens : goal.decreases-in_parens
decreases-in_parens l = 32 * (length l.pieces.now - l.from) + 1

abbrev pub decreases-type_name : goal.decreases-type_name
decreases-type_name l = 32 * (length l.pieces.now - l.from) + 1

abbrev pub decreases-called : goal.decreases-called
decreases-called l = 32 * (length l.pieces.now - l.callee.end) + 0

abbrev pub decreases-call_or_type : goal.decreases-call_or_type
decreases-call_or_type l = 32 * (length l.pieces.now - l.from) + 2

abbrev pub decreases-primary : goal.decreases-primary
decreases-primary l = 32 * (length l.pieces.now - l.from) + 3

abbrev pub decreases-by_index : goal.decreases-by_index
decreases-by_index l = 32 * (length l.pieces.now - l.whole.end) + 0

abbrev pub decreases-accesses : goal.decreases-accesses
decreases-accesses l = 32 * (length l.pieces.now - l.first.end) + 1

abbrev pub decreases-singular : goal.decreases-singular
decreases-singular l = 32 * (length l.pieces.now - l.from) + 4

abbrev pub decreases-unary : goal.decreases-unary
decreases-unary l = 32 * (length l.pieces.now - l.from) + 5

abbrev pub decreases-multiplicative : goal.decreases-multiplicative
decreases-multiplicative l = 32 * (length l.pieces.now - l.from) + 6

abbrev pub decreases-additive : goal.decreases-additive
decreases-additive l = 32 * (length l.pieces.now - l.from) + 7

abbrev pub decreases-shift : goal.decreases-shift
decreases-shift l = 32 * (length l.pieces.now - l.from) + 8

abbrev pub decreases-compared : goal.decreases-compared
decreases-compared l = 32 * (length l.pieces.now - l.left.end) + 0

abbrev pub decreases-relational : goal.decreases-relational
decreases-relational l = 32 * (length l.pieces.now - l.from) + 9

abbrev pub decreases-join_part : goal.decreases-join_part
decreases-join_part l = 32 * (length l.pieces.now - l.from) + 10

abbrev pub decreases-joined : goal.decreases-joined
decreases-joined l = 32 * (length l.pieces.now - l.first.end) + 1

abbrev pub decreases-expression : goal.decreases-expression
decreases-expression l = 32 * (length l.pieces.now - l.from) + 11

abbrev pub decreases-list : goal.decreases-list
decreases-list l = 32 * (length l.pieces.now - l.from) + 12

abbrev pub decreases-arguments : goal.decreases-arguments
decreases-arguments l = 32 * (length l.pieces.now - l.from) + 13

abbrev pub invariant-additive-terms : goal.invariant-additive-terms
invariant-additive-terms l = Turn Additive 4 (Tail Term) (lexemes l.pieces) (length l.pieces) l.fn.names l.names [] l.from l.node (l.from + 1) l.left

abbrev pub decreases-additive-terms : goal.decreases-additive-terms
decreases-additive-terms l = length l.pieces - l.left.end

abbrev pub invariant-multiplicative-factors : goal.invariant-multiplicative-factors
invariant-multiplicative-factors l = Turn Multiplicative 3 (Tail Factor) (lexemes l.pieces) (length l.pieces) l.fn.names l.names [] l.from l.node (l.from + 1) l.left

abbrev pub decreases-multiplicative-factors : goal.decreases-multiplicative-factors
decreases-multiplicative-factors l = length l.pieces - l.left.end

abbrev pub invariant-joined-joints : goal.invariant-joined-joints
invariant-joined-joints l = Turn (Joining l.joint (expr_shape l.fn.names l.fn.first.expr)) 7 (Joining l.joint) (lexemes l.pieces) (length l.pieces) l.fn.names l.names (expr_nodes l.fn.first.expr) l.fn.first.end l.fn.first.node l.fn.first.end l.left

abbrev pub decreases-joined-joints : goal.decreases-joined-joints
decreases-joined-joints l = length l.pieces - l.left.end

abbrev pub invariant-accesses-steps : goal.invariant-accesses-steps
invariant-accesses-steps l = Turn (Tail AccessStep (expr_shape l.fn.names l.fn.first.expr)) 2 (Tail AccessStep) (lexemes l.pieces) (length l.pieces) l.fn.names l.names (expr_nodes l.fn.first.expr) l.fn.first.end l.fn.first.node l.fn.first.end l.whole

abbrev pub decreases-accesses-steps : goal.decreases-accesses-steps
decreases-accesses-steps l = length l.pieces - l.whole.end

abbrev pub invariant-list-items : goal.invariant-list-items
invariant-list-items l = ListTurn l.closer (lexemes l.pieces) (length l.pieces) l.fn.names l.names l.from l.start l.items l.at l.node

abbrev pub decreases-list-items : goal.decreases-list-items
decreases-list-items l = length l.pieces - l.at

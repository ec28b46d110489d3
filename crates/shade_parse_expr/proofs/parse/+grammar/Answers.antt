use Rattle.std.proofs.Common.{refl, sym, ap, subst, arith, rules, length, slice_get, true, false, ◌∙◌, ◌+◌, ◌≤◌, ◌≡◌, [], Some}
use Rattle.shade_ast.specs.Steps.{AccessStep, Factor, IndexStep, MemberStep, Term}
use Rattle.shade_ast.proofs.LeftLaws.{accesses, factors, terms}
use Rattle.shade_ast.specs.Chains.{Closed, Tail}
use Rattle.shade_ast.proofs.ShapeLaws.{grows_trans}
use Rattle.shade_ast.proofs.Tails.{left_first, left_first_fails}
use Rattle.shade_ast.specs.Expressions.{Additive, Expression, Multiplicative, Primary, Relational, Shift, Singular, TypeName, Unary, operand}
use Rattle.shade_ast.specs.Lexemes.{Mark}
use Rattle.shade_ast.specs.Nodes.{expr_nodes}
use Rattle.shade_ast.specs.Repeats.{Listed, MaybeListed}
use Rattle.shade_ast.specs.Shaped.{expr_shape}
use Rattle.shade_base.specs.declared.place.Place.{Place}
use Rattle.shade_parse_expr.proofs.Accesses.{by_index_tree, called_tree, compared_tree, paren_tree, shift_tree, shifted_on, template_tree}
use Rattle.shade_parse_expr.proofs.Chains.{then_fails, then_reads}
use Rattle.shade_parse_expr.proofs.Joins.{alone_none, alone_other, expression_first_fails, join_end, join_fails, join_more, join_more_fails, join_reads}
use Rattle.shade_parse_expr.proofs.Listings.{arguments_fails, arguments_none, arguments_reads}
use Rattle.shade_parse_expr.proofs.Loops.{factor_end, factor_fails, factor_more, term_end, term_fails, term_more, turn_close, turn_comma_close, turn_item_fails, turn_list, turn_more, turn_stuck}
use Rattle.shade_parse_expr.proofs.Prefixes.{free_fails, free_reads, prefix_fails, prefix_reads, singular_free, unary_by, unary_there}
use Rattle.shade_parse_expr.proofs.Primaries.{accesses_end, by_index_fails, by_index_open, called_fails, false_reads, index_fails, index_reads, member_fails, member_reads, numeral_reads}
use Rattle.shade_parse_expr.proofs.Primaries.{paren_fails, paren_open, primary_stuck, template_fails, true_reads, type_alone, type_stuck, word_alone, word_call, word_call_fails, word_fails}
use Rattle.shade_parse_expr.proofs.Readings.{builds, goes_as, goes_on, here_tree, leaf_tree, lists_as, operand_part, prefix_tree, read_as, relation_part, turn_first, turn_here, turn_infix, turn_step}
use Rattle.shade_parse_expr.proofs.Shifts.{compared_fails, compared_none, relation_fails, relation_first_fails, relation_operand_fails, relation_reads, shift_alone, shift_first_fails, shift_operand_fails, shift_stuck}
use Rattle.shade_cursor.proofs.Tokens.{shown_within, isnt, told_none, told_some}
use Rattle.shade_parse_expr.proofs.Trees.{leaf_false, leaf_name, leaf_number, leaf_true, name_stays, reads_tree, tree_of}
use Rattle.shade_parse_expr.proofs.Turns.{errs, fails_here, fault_on, no_memory}
use Rattle.shade_cursor.specs.Operators.{Joins, ShiftAt, joint_infix, prefix_of}
use Rattle.shade_parse_expr.specs.Parts.{ReadsList}
use Rattle.shade_parse_expr.specs.Rests.{Called, Compared, JoinPart, Joining, joint_rank}
use Rattle.shade_cursor.specs.Shown.{lexeme, lexemes}
use Rattle.std.proofs.lemmas.Bool.{not-false, not-true}
use Rattle.std.proofs.lemmas.List.{length-map}
use Rattle.std.proofs.lemmas.Option.{slice_get_within}
use Rattle.shade_ast.specs.declared.expr.ExprKind.TheVariants as kind
use Rattle.shade_ast.specs.declared.lexeme.Sign.TheVariants as sign
use Rattle.shade_cursor.specs.declared.part.Fault.TheVariants as fault
use Rattle.shade_parse_expr.proofs.parse.+grammar.Goals as goal

pub expression-returns-in_err-left-clause-tree : goal.expression-returns-in_err-left-clause-tree
expression-returns-in_err-left-clause-tree t c =
    let tokens = lexemes c.args.pieces.now in
    let within = shown_within c.args.pieces.now c.args.from c.requires.can.within in
    errs _ c.in_err-left.field-0.0 _ _ c.from_residual.ensures.1 (fault_on Expression Relational 7 6 tokens c.args.names.now c.args.names.now _ c.args.from c.args.from c.in_err-left.field-0.0 (omega arith) (λ to f. expression_first_fails tokens c.args.from within to f) c.in_err-left.ensures.tree)

pub expression-returns-in_default-clause-tree : goal.expression-returns-in_default-clause-tree
expression-returns-in_default-clause-tree t c = read_as Expression Relational 7 6 (lexemes c.args.pieces.now) _ _ _ _ _ c.in_ok-left.ensures.tree (λ x. alone_none (lexemes c.args.pieces.now) c.args.from (shown_within c.args.pieces.now c.args.from c.requires.can.within) _ _ x c.in_default.ensures.value)

pub expression-returns-then-not-joins-clause-tree : goal.expression-returns-then-not-joins-clause-tree
expression-returns-then-not-joins-clause-tree t c =
    let tokens = lexemes c.args.pieces.now in
    let within = shown_within c.args.pieces.now c.args.from c.requires.can.within in
    read_as Expression Relational 7 6 tokens _ _ _ _ _ c.in_ok-left.ensures.tree (λ x. alone_other tokens c.args.from within _ _ x _ _ c.in-Some.ensures.value (λ b. isnt c.if-not-joins.ensures (subst (λ y. Joins c.in-Some.joint y) (sym c.in_ok-left.ensures.tree.bare) b)))

pub expression-returns-clause-tree : goal.expression-returns-clause-tree
expression-returns-clause-tree t c =
    let tokens = lexemes c.args.pieces.now in
    let within = shown_within c.args.pieces.now c.args.from c.requires.can.within in
    let joins = c.if-not-joins.ensures.0 refl in
    let left_shape = expr_shape c.relational.new.names c.in_ok-left.left.expr in
    goes_on Expression (Joining c.in-Some.joint left_shape) 7 7 tokens c.args.names.now c.relational.new.names c.joined.new.names c.args.from c.args.node c.in_ok-left.left.end c.in_ok-left.left
    c.joined.result (c.in_ok-left.ensures.went.few) c.in_ok-left.ensures.tree.nodes
    (λ e to y. join_reads tokens c.args.from within left_shape c.in_ok-left.left.end c.in_ok-left.ensures.tree.reads c.in-Some.joint _ c.in-Some.ensures.value (subst (λ y. Joins c.in-Some.joint y) c.in_ok-left.ensures.tree.bare joins) e to y)
    (λ to y. join_fails tokens c.args.from within left_shape c.in_ok-left.left.end c.in_ok-left.ensures.tree.reads c.in-Some.joint _ c.in-Some.ensures.value (subst (λ y. Joins c.in-Some.joint y) c.in_ok-left.ensures.tree.bare joins) to y)
    c.joined.ensures.tree

pub joined-joints-init : goal.joined-joints-init
joined-joints-init t c = turn_here 7 (Joining c.args.joint) (lexemes c.args.pieces.now) (length c.args.pieces.now) c.args.names.now c.args.first (shown_within c.args.pieces.now c.args.first.end c.requires.can.within) c.requires.can.within c.requires.known c.requires.bare

pub joined-returns-in-Err-clause-tree : goal.joined-returns-in-Err-clause-tree
joined-returns-in-Err-clause-tree t c =
    let tokens = lexemes c.args.pieces.now in
    let first_shape = expr_shape c.args.names.now c.args.first.expr in
    errs _ c.in-Err.fault _ _ c.refuse.ensures
    (fault_on (Joining c.args.joint first_shape) (JoinPart c.args.joint) 7 (joint_rank c.args.joint) tokens c.args.names.now c.joints.names _ c.args.first.end (c.joints.left.end + 1) c.in-Err.fault
    (omega (arith, c.joints.invariant.few))
    (λ to f. join_more_fails c.args.joint first_shape tokens c.args.first.end c.joints.left.end (expr_shape c.joints.names c.joints.left.expr) c.joints.invariant.stage c.in-Some.place
    (subst (λ s. slice_get tokens c.joints.left.end ≡ Some (Mark s c.in-Some.place)) c.sign_of.ensures c.in-Some.ensures.value) to f)
    c.in-Err.ensures.tree)

pub joined-returns-in_err-left-clause-tree : goal.joined-returns-in_err-left-clause-tree
joined-returns-in_err-left-clause-tree t c =
    let tokens = lexemes c.args.pieces.now in
    errs _ c.in_err-left.field-0.0 _ _ c.from_residual.ensures.1
    (no_memory (Joining c.args.joint (expr_shape c.args.names.now c.args.first.expr)) 7 tokens c.args.names.now c.join_part.new.names c.args.first.end c.in_err-left.field-0.0 c.in_err-left.ensures
    (omega (arith, c.joints.invariant.few, c.in-Ok.ensures.went.few, c.in-Ok.ensures.went.within, length-map c.args.pieces.now lexeme)))

pub joined-joints-preserved : goal.joined-joints-preserved
joined-joints-preserved t c =
    let tokens = lexemes c.args.pieces.now in
    let first_shape = expr_shape c.args.names.now c.args.first.expr in
    turn_infix (Joining c.args.joint first_shape) 7 (Joining c.args.joint) tokens (length c.args.pieces.now) c.args.names.now c.joints.names c.join_part.new.names (expr_nodes c.args.first.expr)
    c.args.first.end c.args.first.node c.args.first.end c.joints.left c.joints.invariant (JoinPart c.args.joint) (joint_rank c.args.joint) c.in-Ok.right c.in_ok-left.left (joint_infix c.args.joint)
    c.in-Some.place c.in-Ok.ensures.grows c.in-Ok.ensures.tree c.in-Ok.ensures.went.further c.in-Ok.ensures.went.within c.in-Ok.ensures.went.numbered c.in-Ok.ensures.went.few
    (subst
    (λ i. c.in_ok-left.left ≡ record { expr = record { node = c.in-Ok.right.node; place = c.joints.left.expr.place; kind = kind.Infix c.joints.left.expr i c.in-Some.place c.in-Ok.right.expr }; end = c.in-Ok.right.end; node = c.in-Ok.right.node + 1; bare = false })
    c.infix_of.ensures c.in_ok-left.ensures)
    (λ s x. join_more c.args.joint first_shape tokens c.args.first.end c.joints.left.end (expr_shape c.join_part.new.names c.joints.left.expr) s c.in-Some.place
    (subst (λ s. slice_get tokens c.joints.left.end ≡ Some (Mark s c.in-Some.place)) c.sign_of.ensures c.in-Some.ensures.value) c.in-Ok.right.end (expr_shape c.join_part.new.names c.in-Ok.right.expr) x)

pub joined-returns-clause-tree : goal.joined-returns-clause-tree
joined-returns-clause-tree t c =
    let tokens = lexemes c.args.pieces.now in
    let first_shape = expr_shape c.args.names.now c.args.first.expr in
    reads_tree (Joining c.args.joint first_shape) 7 tokens c.joints.names (expr_nodes c.args.first.expr) c.args.first.end c.args.first.node c.joints.left c.joints.invariant.tree
    (join_end c.args.joint first_shape tokens c.args.first.end c.joints.left.end (expr_shape c.joints.names c.joints.left.expr) c.joints.invariant.stage
    (λ p is. c.in_default.ensures.value p (subst (λ s. slice_get tokens c.joints.left.end ≡ Some (Mark s p)) (sym c.sign_of.ensures) is)))

pub join_part-returns-in-Or-clause-tree : goal.join_part-returns-in-Or-clause-tree
join_part-returns-in-Or-clause-tree t c = relation_part (lexemes c.args.pieces.now) c.args.names.now c.relational.new.names c.args.from c.args.node c.relational.result c.args.joint c.in-Or.is c.relational.ensures.tree

pub join_part-returns-in-BitAnd-clause-tree : goal.join_part-returns-in-BitAnd-clause-tree
join_part-returns-in-BitAnd-clause-tree t c = operand_part (lexemes c.args.pieces.now) c.args.names.now c.unary.new.names c.args.from c.args.node c.unary.result c.args.joint c.in-BitAnd.is c.unary.ensures.tree

pub relational-returns-in_err-left-clause-tree : goal.relational-returns-in_err-left-clause-tree
relational-returns-in_err-left-clause-tree t c =
    let tokens = lexemes c.args.pieces.now in
    let within = shown_within c.args.pieces.now c.args.from c.requires.can.within in
    errs _ c.in_err-left.field-0.0 _ _ c.from_residual.ensures.1 (fault_on Relational Additive 6 4 tokens c.args.names.now c.args.names.now _ c.args.from c.args.from c.in_err-left.field-0.0 (omega arith) (λ to f. relation_first_fails tokens c.args.from within to f) c.in_err-left.ensures.tree)

pub relational-returns-in_default-clause-tree : goal.relational-returns-in_default-clause-tree
relational-returns-in_default-clause-tree t c =
    let tokens = lexemes c.args.pieces.now in
    let within = shown_within c.args.pieces.now c.args.from c.requires.can.within in
    let bare = sym c.in_ok-left.ensures.tree.bare in
    let left_shape = expr_shape c.additive.new.names c.in_ok-left.left.expr in
    goes_on Relational (Compared left_shape) 6 6 tokens c.args.names.now c.additive.new.names c.compared.new.names c.args.from c.args.node c.in_ok-left.left.end c.in_ok-left.left c.compared.result
    (c.in_ok-left.ensures.went.few) c.in_ok-left.ensures.tree.nodes
    (λ e to y. relation_reads tokens c.args.from within left_shape c.in_ok-left.left.end c.in_ok-left.ensures.tree.reads (λ i p next s. c.in_default.ensures.value i p next (subst (λ b. ShiftAt tokens c.in_ok-left.left.end b i p next) bare s)) e to y)
    (λ to y. relation_fails tokens c.args.from within left_shape c.in_ok-left.left.end c.in_ok-left.ensures.tree.reads (λ i p next s. c.in_default.ensures.value i p next (subst (λ b. ShiftAt tokens c.in_ok-left.left.end b i p next) bare s)) to y)
    c.compared.ensures.tree

pub relational-returns-in-Err-clause-tree : goal.relational-returns-in-Err-clause-tree
relational-returns-in-Err-clause-tree t c =
    let tokens = lexemes c.args.pieces.now in
    let within = shown_within c.args.pieces.now c.args.from c.requires.can.within in
    errs _ c.in-Err.fault _ _ c.refuse.ensures
    (fault_on Relational Unary 6 2 tokens c.args.names.now c.additive.new.names _ c.args.from c.in-Some.next c.in-Err.fault (omega (arith, c.in_ok-left.ensures.went.few, c.in-Some.ensures.further))
    (λ to f. relation_operand_fails tokens c.args.from within (expr_shape c.additive.new.names c.in_ok-left.left.expr) c.in_ok-left.left.end c.in_ok-left.ensures.tree.reads c.in-Some.operator c.in-Some.place
    c.in-Some.next (subst (λ b. ShiftAt tokens c.in_ok-left.left.end b c.in-Some.operator c.in-Some.place c.in-Some.next) c.in_ok-left.ensures.tree.bare c.in-Some.ensures.value) to f)
    c.in-Err.ensures.tree)

pub relational-returns-in_err-left-2-clause-tree : goal.relational-returns-in_err-left-2-clause-tree
relational-returns-in_err-left-2-clause-tree t c =
    let tokens = lexemes c.args.pieces.now in
    errs _ c.in_err-left-2.field-0.0 _ _ c.from_residual-in_err-left-2.ensures.1
    (no_memory Relational 6 tokens c.args.names.now c.unary.new.names c.args.from c.in_err-left-2.field-0.0 c.in_err-left-2.ensures
    (omega (arith, c.in_ok-left.ensures.went.few, c.in-Some.ensures.further, c.in-Ok.ensures.went.few, c.in-Ok.ensures.went.within, length-map c.args.pieces.now lexeme)))

pub relational-returns-clause-tree : goal.relational-returns-clause-tree
relational-returns-clause-tree t c =
    let tokens = lexemes c.args.pieces.now in
    let within = shown_within c.args.pieces.now c.args.from c.requires.can.within in
    shifted_on tokens c.additive.new.names c.unary.new.names c.args.from c.args.node within c.in_ok-left.left c.in-Ok.right c.in_ok-left-2.left c.in-Some.operator c.in-Some.place c.in-Some.next
    c.in_ok-left.ensures.tree c.in-Ok.ensures.grows c.in-Some.ensures.value c.in-Ok.ensures.tree c.in_ok-left-2.ensures c.args.names.now c.compared-2.new.names c.compared-2.result
    (let end : c.in_ok-left-2.left.end ≡ c.in-Ok.right.end = ap (λ y. y.end) c.in_ok-left-2.ensures in omega (arith, c.in_ok-left.ensures.went.few, c.in-Some.ensures.further, c.in-Ok.ensures.went.few, c.in-Ok.ensures.went.within))
    c.compared-2.ensures.tree

pub compared-returns-in_default-clause-tree : goal.compared-returns-in_default-clause-tree
compared-returns-in_default-clause-tree t c =
    let tokens = lexemes c.args.pieces.now in
    let left_shape = expr_shape c.args.names.now c.args.left.expr in
    reads_tree (Compared left_shape) 6 tokens c.args.names.now (expr_nodes c.args.left.expr) c.args.left.end c.args.left.node c.args.left
    (here_tree c.args.names.now c.args.left c.requires.known c.requires.bare)
    (compared_none left_shape tokens c.args.left.end c.in_default.ensures.value (shown_within c.args.pieces.now c.args.left.end c.requires.can.within))

pub compared-returns-in-Err-clause-tree : goal.compared-returns-in-Err-clause-tree
compared-returns-in-Err-clause-tree t c =
    let tokens = lexemes c.args.pieces.now in
    let left_shape = expr_shape c.args.names.now c.args.left.expr in
    errs _ c.in-Err.fault _ _ c.refuse.ensures
    (fault_on (Compared left_shape) Shift 6 6 tokens c.args.names.now c.args.names.now _ c.args.left.end c.in-Some.next c.in-Err.fault (omega (arith, c.in-Some.ensures.further))
    (λ to f. compared_fails left_shape tokens c.args.left.end c.in-Some.operator c.in-Some.place c.in-Some.next c.in-Some.ensures.value (shown_within c.args.pieces.now c.args.left.end c.requires.can.within) to f)
    c.in-Err.ensures.tree)

pub compared-returns-clause-tree : goal.compared-returns-clause-tree
compared-returns-clause-tree t c =
    let tokens = lexemes c.args.pieces.now in
    let old = c.args.names.now in
    builds (Compared (expr_shape old c.args.left.expr)) 6 tokens old c.shift.new.names (expr_nodes c.args.left.expr) c.args.left.end c.args.left.node _ c.infix.result
    (omega (arith, c.in-Some.ensures.further, c.in-Ok.ensures.went.few, c.in-Ok.ensures.went.within, length-map c.args.pieces.now lexeme))
    (λ p same. compared_tree tokens old c.shift.new.names c.args.left c.requires.known c.requires.bare c.in-Ok.ensures.grows p c.in-Ok.right c.in-Some.operator c.in-Some.place c.in-Some.next
    (shown_within c.args.pieces.now c.args.left.end c.requires.can.within) c.in-Some.ensures.value c.in-Ok.ensures.tree same)
    c.infix.ensures

pub shift-returns-in_err-left-clause-tree : goal.shift-returns-in_err-left-clause-tree
shift-returns-in_err-left-clause-tree t c =
    let tokens = lexemes c.args.pieces.now in
    let within = shown_within c.args.pieces.now c.args.from c.requires.can.within in
    errs _ c.in_err-left.field-0.0 _ _ c.from_residual.ensures.1 (fault_on Shift Additive 6 4 tokens c.args.names.now c.args.names.now _ c.args.from c.args.from c.in_err-left.field-0.0 (omega arith) (λ to f. shift_first_fails tokens c.args.from within to f) c.in_err-left.ensures.tree)

pub shift-returns-then-not-left-clause-tree : goal.shift-returns-then-not-left-clause-tree
shift-returns-then-not-left-clause-tree t c =
    let tokens = lexemes c.args.pieces.now in
    let within = shown_within c.args.pieces.now c.args.from c.requires.can.within in
    read_as Shift Additive 6 4 tokens _ _ _ _ _ c.in_ok-left.ensures.tree
    (λ x. shift_alone tokens c.args.from within _ _ x (λ p b is. let bad : true ≡ false = sym b ∙ sym c.in_ok-left.ensures.tree.bare ∙ not-true _ c.if-not-left.true in cc)
    (λ i p next s. c.in_default.ensures.value i p next (subst (λ b. ShiftAt tokens c.in_ok-left.left.end b i p next) (sym c.in_ok-left.ensures.tree.bare) s)))

pub shift-returns-then-is_none-clause-tree : goal.shift-returns-then-is_none-clause-tree
shift-returns-then-is_none-clause-tree t c =
    let tokens = lexemes c.args.pieces.now in
    let within = shown_within c.args.pieces.now c.args.from c.requires.can.within in
    read_as Shift Additive 6 4 tokens _ _ _ _ _ c.in_ok-left.ensures.tree
    (λ x. shift_alone tokens c.args.from within _ _ x (λ p b is. told_none _ _ _ c.if-is_none.ensures c.mark_at.ensures.value p is)
    (λ i p next s. c.in_default.ensures.value i p next (subst (λ b. ShiftAt tokens c.in_ok-left.left.end b i p next) (sym c.in_ok-left.ensures.tree.bare) s)))

pub shift-returns-in_default-clause-tree : goal.shift-returns-in_default-clause-tree
shift-returns-in_default-clause-tree t c =
    let tokens = lexemes c.args.pieces.now in
    let within = shown_within c.args.pieces.now c.args.from c.requires.can.within in
    let behind = c.in_ok-left.left.end + 1 in
    let bare = sym c.in_ok-left.ensures.tree.bare in
    errs _ (fault.Unexpected behind) _ _ c.refuse.ensures
    (fails_here Shift 6 tokens c.args.names.now c.additive.new.names c.args.from behind (omega (arith, c.in_ok-left.ensures.went.few))
    (let m : (p : Place) × (slice_get tokens c.in_ok-left.left.end ≡ Some (Mark sign.Greater p)) = told_some _ _ _ c.if-is_none.ensures c.mark_at.ensures.value in
    shift_stuck tokens c.args.from within (expr_shape c.additive.new.names c.in_ok-left.left.expr) c.in_ok-left.left.end c.in_ok-left.ensures.tree.reads m.0 (bare ∙ not-false _ c.if-not-left.false) m.1
    (λ i p next s. c.in_default.ensures.value i p next (subst (λ b. ShiftAt tokens c.in_ok-left.left.end b i p next) bare s))))

pub shift-returns-in-Err-clause-tree : goal.shift-returns-in-Err-clause-tree
shift-returns-in-Err-clause-tree t c =
    let tokens = lexemes c.args.pieces.now in
    let within = shown_within c.args.pieces.now c.args.from c.requires.can.within in
    errs _ c.in-Err.fault _ _ c.refuse-in-Err.ensures
    (fault_on Shift Unary 6 2 tokens c.args.names.now c.additive.new.names _ c.args.from c.in-Some.next c.in-Err.fault (omega (arith, c.in_ok-left.ensures.went.few, c.in-Some.ensures.further))
    (λ to f. shift_operand_fails tokens c.args.from within (expr_shape c.additive.new.names c.in_ok-left.left.expr) c.in_ok-left.left.end c.in_ok-left.ensures.tree.reads c.in-Some.operator c.in-Some.place
    c.in-Some.next (subst (λ b. ShiftAt tokens c.in_ok-left.left.end b c.in-Some.operator c.in-Some.place c.in-Some.next) c.in_ok-left.ensures.tree.bare c.in-Some.ensures.value) to f)
    c.in-Err.ensures.tree)

pub shift-returns-clause-tree : goal.shift-returns-clause-tree
shift-returns-clause-tree t c =
    let tokens = lexemes c.args.pieces.now in
    let within = shown_within c.args.pieces.now c.args.from c.requires.can.within in
    builds Shift 6 tokens c.args.names.now c.unary.new.names [] c.args.from c.args.node _ c.infix.result
    (omega (arith, c.in_ok-left.ensures.went.few, c.in-Some.ensures.further, c.in-Ok.ensures.went.few, c.in-Ok.ensures.went.within, length-map c.args.pieces.now lexeme))
    (λ p same. shift_tree tokens c.additive.new.names c.unary.new.names c.args.from c.args.node within c.in_ok-left.left c.in-Ok.right p c.in-Some.operator c.in-Some.place c.in-Some.next c.in_ok-left.ensures.tree
    c.in-Ok.ensures.grows c.in-Some.ensures.value c.in-Ok.ensures.tree same)
    c.infix.ensures

pub additive-returns-in_err-left-clause-tree : goal.additive-returns-in_err-left-clause-tree
additive-returns-in_err-left-clause-tree t c =
    let tokens = lexemes c.args.pieces.now in
    let within = shown_within c.args.pieces.now c.args.from c.requires.can.within in
    errs _ c.in_err-left.field-0.0 _ _ c.from_residual.ensures.1
    (fault_on Additive Multiplicative 4 3 tokens c.args.names.now c.args.names.now _ c.args.from c.args.from c.in_err-left.field-0.0 (omega arith) (λ to f. left_first_fails Additive Multiplicative Term 4 3 terms tokens c.args.from to within f) c.in_err-left.ensures.tree)

pub additive-terms-init : goal.additive-terms-init
additive-terms-init t c =
    let tokens = lexemes c.args.pieces.now in
    let within = shown_within c.args.pieces.now c.args.from c.requires.can.within in
    turn_first Additive Multiplicative Term 4 3 terms tokens (length c.args.pieces.now) c.args.from within c.args.names.now c.multiplicative.new.names c.args.node c.in_ok-left.left
    c.in_ok-left.ensures.tree c.in_ok-left.ensures.grows c.in_ok-left.ensures.went.further c.in_ok-left.ensures.went.within c.in_ok-left.ensures.went.numbered c.in_ok-left.ensures.went.few

pub additive-returns-in-Err-clause-tree : goal.additive-returns-in-Err-clause-tree
additive-returns-in-Err-clause-tree t c =
    let tokens = lexemes c.args.pieces.now in
    errs _ c.in-Err.fault _ _ c.refuse.ensures
    (fault_on Additive Multiplicative 4 3 tokens c.args.names.now c.terms.names _ c.args.from (c.terms.left.end + 1) c.in-Err.fault (omega (arith, c.terms.invariant.few))
    (λ to f. term_fails tokens c.args.from c.terms.left.end (expr_shape c.terms.names c.terms.left.expr) c.terms.invariant.stage _ _ c.in-Some.ensures.value to f) c.in-Err.ensures.tree)

pub additive-returns-in_err-left-2-clause-tree : goal.additive-returns-in_err-left-2-clause-tree
additive-returns-in_err-left-2-clause-tree t c =
    let tokens = lexemes c.args.pieces.now in
    errs _ c.in_err-left-2.field-0.0 _ _ c.from_residual-in_err-left-2.ensures.1
    (no_memory Additive 4 tokens c.args.names.now c.multiplicative-in-Some.new.names c.args.from c.in_err-left-2.field-0.0 c.in_err-left-2.ensures (omega (arith, c.terms.invariant.few, c.in-Ok.ensures.went.few, c.in-Ok.ensures.went.within, length-map c.args.pieces.now lexeme)))

pub additive-terms-preserved : goal.additive-terms-preserved
additive-terms-preserved t c =
    let tokens = lexemes c.args.pieces.now in
    turn_infix Additive 4 (Tail Term) tokens (length c.args.pieces.now) c.args.names.now c.terms.names c.multiplicative-in-Some.new.names [] c.args.from c.args.node (c.args.from + 1) c.terms.left
    c.terms.invariant Multiplicative 3 c.in-Ok.right _ _ _ c.in-Ok.ensures.grows c.in-Ok.ensures.tree c.in-Ok.ensures.went.further c.in-Ok.ensures.went.within c.in-Ok.ensures.went.numbered c.in-Ok.ensures.went.few
    c.in_ok-left-2.ensures
    (λ s x. term_more tokens c.args.from c.terms.left.end (expr_shape c.multiplicative-in-Some.new.names c.terms.left.expr) s _ _ c.in-Some.ensures.value c.in-Ok.right.end (expr_shape c.multiplicative-in-Some.new.names c.in-Ok.right.expr) x)

pub additive-returns-clause-tree : goal.additive-returns-clause-tree
additive-returns-clause-tree t c =
    let tokens = lexemes c.args.pieces.now in
    reads_tree Additive 4 tokens c.terms.names [] c.args.from c.args.node c.terms.left c.terms.invariant.tree (term_end tokens c.args.from c.terms.left.end (expr_shape c.terms.names c.terms.left.expr) c.terms.invariant.stage c.in_default.ensures.value)

pub multiplicative-returns-in_err-left-clause-tree : goal.multiplicative-returns-in_err-left-clause-tree
multiplicative-returns-in_err-left-clause-tree t c =
    let tokens = lexemes c.args.pieces.now in
    let within = shown_within c.args.pieces.now c.args.from c.requires.can.within in
    errs _ c.in_err-left.field-0.0 _ _ c.from_residual.ensures.1
    (fault_on Multiplicative Unary 3 2 tokens c.args.names.now c.args.names.now _ c.args.from c.args.from c.in_err-left.field-0.0 (omega arith) (λ to f. left_first_fails Multiplicative Unary Factor 3 2 factors tokens c.args.from to within f) c.in_err-left.ensures.tree)

pub multiplicative-factors-init : goal.multiplicative-factors-init
multiplicative-factors-init t c =
    let tokens = lexemes c.args.pieces.now in
    let within = shown_within c.args.pieces.now c.args.from c.requires.can.within in
    turn_first Multiplicative Unary Factor 3 2 factors tokens (length c.args.pieces.now) c.args.from within c.args.names.now c.unary.new.names c.args.node c.in_ok-left.left c.in_ok-left.ensures.tree
    c.in_ok-left.ensures.grows c.in_ok-left.ensures.went.further c.in_ok-left.ensures.went.within c.in_ok-left.ensures.went.numbered c.in_ok-left.ensures.went.few

pub multiplicative-returns-in-Err-clause-tree : goal.multiplicative-returns-in-Err-clause-tree
multiplicative-returns-in-Err-clause-tree t c =
    let tokens = lexemes c.args.pieces.now in
    errs _ c.in-Err.fault _ _ c.refuse.ensures
    (fault_on Multiplicative Unary 3 2 tokens c.args.names.now c.factors.names _ c.args.from (c.factors.left.end + 1) c.in-Err.fault (omega (arith, c.factors.invariant.few))
    (λ to f. factor_fails tokens c.args.from c.factors.left.end (expr_shape c.factors.names c.factors.left.expr) c.factors.invariant.stage _ _ c.in-Some.ensures.value to f) c.in-Err.ensures.tree)

pub multiplicative-returns-in_err-left-2-clause-tree : goal.multiplicative-returns-in_err-left-2-clause-tree
multiplicative-returns-in_err-left-2-clause-tree t c =
    let tokens = lexemes c.args.pieces.now in
    errs _ c.in_err-left-2.field-0.0 _ _ c.from_residual-in_err-left-2.ensures.1
    (no_memory Multiplicative 3 tokens c.args.names.now c.unary-in-Some.new.names c.args.from c.in_err-left-2.field-0.0 c.in_err-left-2.ensures (omega (arith, c.factors.invariant.few, c.in-Ok.ensures.went.few, c.in-Ok.ensures.went.within, length-map c.args.pieces.now lexeme)))

pub multiplicative-factors-preserved : goal.multiplicative-factors-preserved
multiplicative-factors-preserved t c =
    let tokens = lexemes c.args.pieces.now in
    turn_infix Multiplicative 3 (Tail Factor) tokens (length c.args.pieces.now) c.args.names.now c.factors.names c.unary-in-Some.new.names [] c.args.from c.args.node (c.args.from + 1) c.factors.left
    c.factors.invariant Unary 2 c.in-Ok.right _ _ _ c.in-Ok.ensures.grows c.in-Ok.ensures.tree c.in-Ok.ensures.went.further c.in-Ok.ensures.went.within c.in-Ok.ensures.went.numbered c.in-Ok.ensures.went.few
    c.in_ok-left-2.ensures
    (λ s x. factor_more tokens c.args.from c.factors.left.end (expr_shape c.unary-in-Some.new.names c.factors.left.expr) s _ _ c.in-Some.ensures.value c.in-Ok.right.end (expr_shape c.unary-in-Some.new.names c.in-Ok.right.expr) x)

pub multiplicative-returns-clause-tree : goal.multiplicative-returns-clause-tree
multiplicative-returns-clause-tree t c =
    let tokens = lexemes c.args.pieces.now in
    reads_tree Multiplicative 3 tokens c.factors.names [] c.args.from c.args.node c.factors.left c.factors.invariant.tree (factor_end tokens c.args.from c.factors.left.end (expr_shape c.factors.names c.factors.left.expr) c.factors.invariant.stage c.in_default.ensures.value)

pub unary-returns-in_default-clause-tree : goal.unary-returns-in_default-clause-tree
unary-returns-in_default-clause-tree t c =
    let tokens = lexemes c.args.pieces.now in
    let within = shown_within c.args.pieces.now c.args.from c.requires.can.within in
    goes_as Unary Singular 2 2 tokens c.args.names.now c.singular.new.names c.args.from c.args.node c.singular.result
    (λ e to y. free_reads prefix_of Unary Singular unary_there unary_by (λ r ts w g. operand g) singular_free tokens c.args.from within c.in_default.ensures.value to e y)
    (λ to y. free_fails prefix_of Unary Singular unary_there unary_by (λ r ts w g. operand g) singular_free tokens c.args.from within c.in_default.ensures.value to y) c.singular.ensures.tree

pub unary-returns-in_err-operand-clause-tree : goal.unary-returns-in_err-operand-clause-tree
unary-returns-in_err-operand-clause-tree t c =
    let tokens = lexemes c.args.pieces.now in
    let within = shown_within c.args.pieces.now c.args.from c.requires.can.within in
    errs _ c.in_err-operand.field-0.0 _ _ c.from_residual.ensures.1
    (fault_on Unary Unary 2 2 tokens c.args.names.now c.args.names.now _ c.args.from (c.args.from + 1) c.in_err-operand.field-0.0 (omega arith)
    (λ to f. prefix_fails prefix_of Unary Singular unary_there unary_by (λ r ts w g. operand g) singular_free tokens c.args.from within c.in-Some.operator c.in-Some.place c.in-Some.ensures.value to f)
    c.in_err-operand.ensures.tree)

pub unary-returns-clause-tree : goal.unary-returns-clause-tree
unary-returns-clause-tree t c =
    let tokens = lexemes c.args.pieces.now in
    let within = shown_within c.args.pieces.now c.args.from c.requires.can.within in
    builds Unary 2 tokens c.args.names.now c.unary.new.names [] c.args.from c.args.node _ c.prefix.result
    (omega (arith, c.in_ok-operand.ensures.went.few, c.in_ok-operand.ensures.went.within, length-map c.args.pieces.now lexeme))
    (λ p same. prefix_tree Unary 2 tokens c.unary.new.names [] c.args.from c.args.node p c.in_ok-operand.operand c.in-Some.operator c.in-Some.place same
    (tree_of Unary 2 tokens c.unary.new.names [] (c.args.from + 1) c.args.node c.in_ok-operand.operand c.in_ok-operand.ensures.tree)
    (prefix_reads prefix_of Unary Singular unary_there unary_by (λ r ts w g. operand g) singular_free tokens c.args.from within c.in-Some.operator c.in-Some.place c.in-Some.ensures.value
    (expr_shape c.unary.new.names c.in_ok-operand.operand.expr) c.in_ok-operand.operand.end c.in_ok-operand.ensures.tree.reads))
    c.prefix.ensures

pub singular-returns-in_err-whole-clause-tree : goal.singular-returns-in_err-whole-clause-tree
singular-returns-in_err-whole-clause-tree t c =
    let tokens = lexemes c.args.pieces.now in
    let within = shown_within c.args.pieces.now c.args.from c.requires.can.within in
    errs _ c.in_err-whole.field-0.0 _ _ c.from_residual.ensures.1
    (fault_on Singular Primary 2 1 tokens c.args.names.now c.args.names.now _ c.args.from c.args.from c.in_err-whole.field-0.0 (omega arith) (λ to f. left_first_fails Singular Primary AccessStep 2 1 accesses tokens c.args.from to within f) c.in_err-whole.ensures.tree)

pub singular-returns-clause-tree : goal.singular-returns-clause-tree
singular-returns-clause-tree t c =
    let tokens = lexemes c.args.pieces.now in
    let within = shown_within c.args.pieces.now c.args.from c.requires.can.within in
    let whole_shape = expr_shape c.primary.new.names c.in_ok-whole.whole.expr in
    let rest = Tail AccessStep whole_shape in
    let stage = left_first Singular Primary AccessStep 2 1 accesses tokens c.args.from c.in_ok-whole.whole.end whole_shape within c.in_ok-whole.ensures.tree.reads in
    goes_on Singular rest 2 2 tokens c.args.names.now c.primary.new.names c.accesses.new.names c.args.from c.args.node c.in_ok-whole.whole.end c.in_ok-whole.whole c.accesses.result
    (c.in_ok-whole.ensures.went.few) c.in_ok-whole.ensures.tree.nodes (λ e to y. then_reads Singular rest 2 tokens c.args.from c.in_ok-whole.whole.end to stage e y)
    (λ to y. then_fails Singular rest 2 tokens c.args.from c.in_ok-whole.whole.end to stage y) c.accesses.ensures.tree

pub accesses-steps-init : goal.accesses-steps-init
accesses-steps-init t c = turn_here 2 (Tail AccessStep) (lexemes c.args.pieces.now) (length c.args.pieces.now) c.args.names.now c.args.first (shown_within c.args.pieces.now c.args.first.end c.requires.can.within) c.requires.can.within c.requires.known c.requires.bare

pub accesses-returns-in_err-whole-clause-tree : goal.accesses-returns-in_err-whole-clause-tree
accesses-returns-in_err-whole-clause-tree t c =
    let tokens = lexemes c.args.pieces.now in
    let whole_shape = expr_shape c.steps.names c.steps.whole.expr in
    let first_shape = expr_shape c.args.names.now c.args.first.expr in
    errs _ c.in_err-whole.field-0.0 _ _ c.from_residual.ensures.1
    (fault_on (Tail AccessStep first_shape) (MemberStep whole_shape c.in-Some.dot) 2 1 tokens c.args.names.now c.steps.names _ c.args.first.end (c.steps.whole.end + 1) c.in_err-whole.field-0.0
    (omega (arith, c.steps.invariant.few)) (λ to f. member_fails first_shape tokens c.args.first.end c.steps.whole.end whole_shape c.steps.invariant.stage c.in-Some.dot to c.in-Some.ensures.value f)
    c.in_err-whole.ensures.tree)

pub accesses-steps-preserved-in-Some : goal.accesses-steps-preserved-in-Some
accesses-steps-preserved-in-Some t c =
    let tokens = lexemes c.args.pieces.now in
    let whole_shape = expr_shape c.steps.names c.steps.whole.expr in
    let first_shape = expr_shape c.args.names.now c.args.first.expr in
    turn_step (Tail AccessStep first_shape) 2 (Tail AccessStep) tokens (length c.args.pieces.now) c.args.names.now c.steps.names c.by_name.new.names (expr_nodes c.args.first.expr) c.args.first.end
    c.args.first.node c.args.first.end c.steps.whole c.steps.invariant (MemberStep whole_shape c.in-Some.dot) 1 c.in_ok-whole.whole c.in_ok-whole.ensures.grows c.in_ok-whole.ensures.tree
    c.in_ok-whole.ensures.further c.in_ok-whole.ensures.went.within c.in_ok-whole.ensures.went.numbered c.in_ok-whole.ensures.went.few
    (λ s x. member_reads first_shape tokens c.args.first.end c.steps.whole.end whole_shape c.steps.invariant.stage c.in-Some.dot c.in_ok-whole.whole.end c.in-Some.ensures.value (expr_shape c.by_name.new.names c.in_ok-whole.whole.expr) x)

pub accesses-returns-in_err-whole-2-clause-tree : goal.accesses-returns-in_err-whole-2-clause-tree
accesses-returns-in_err-whole-2-clause-tree t c =
    let tokens = lexemes c.args.pieces.now in
    let whole_shape = expr_shape c.steps.names c.steps.whole.expr in
    let first_shape = expr_shape c.args.names.now c.args.first.expr in
    errs _ c.in_err-whole-2.field-0.0 _ _ c.from_residual-in_err-whole-2.ensures.1
    (fault_on (Tail AccessStep first_shape) (IndexStep whole_shape c.in-Some-mark_at.bracket) 2 1 tokens c.args.names.now c.steps.names _ c.args.first.end (c.steps.whole.end + 1) c.in_err-whole-2.field-0.0
    (omega (arith, c.steps.invariant.few))
    (λ to f. index_fails first_shape tokens c.args.first.end c.steps.whole.end whole_shape c.steps.invariant.stage c.in-Some-mark_at.bracket to c.in-Some-mark_at.ensures.value f)
    c.in_err-whole-2.ensures.tree)

pub accesses-steps-preserved : goal.accesses-steps-preserved
accesses-steps-preserved t c =
    let tokens = lexemes c.args.pieces.now in
    let whole_shape = expr_shape c.steps.names c.steps.whole.expr in
    let first_shape = expr_shape c.args.names.now c.args.first.expr in
    turn_step (Tail AccessStep first_shape) 2 (Tail AccessStep) tokens (length c.args.pieces.now) c.args.names.now c.steps.names c.by_index.new.names (expr_nodes c.args.first.expr) c.args.first.end
    c.args.first.node c.args.first.end c.steps.whole c.steps.invariant (IndexStep whole_shape c.in-Some-mark_at.bracket) 1 c.in_ok-whole-2.whole c.in_ok-whole-2.ensures.grows c.in_ok-whole-2.ensures.tree
    c.in_ok-whole-2.ensures.further c.in_ok-whole-2.ensures.went.within c.in_ok-whole-2.ensures.went.numbered c.in_ok-whole-2.ensures.went.few
    (λ s x. index_reads first_shape tokens c.args.first.end c.steps.whole.end whole_shape c.steps.invariant.stage c.in-Some-mark_at.bracket c.in_ok-whole-2.whole.end c.in-Some-mark_at.ensures.value (expr_shape c.by_index.new.names c.in_ok-whole-2.whole.expr) x)

pub accesses-returns-in_default-mark_at-clause-tree : goal.accesses-returns-in_default-mark_at-clause-tree
accesses-returns-in_default-mark_at-clause-tree t c =
    let tokens = lexemes c.args.pieces.now in
    let first_shape = expr_shape c.args.names.now c.args.first.expr in
    reads_tree (Tail AccessStep first_shape) 2 tokens c.steps.names (expr_nodes c.args.first.expr) c.args.first.end c.args.first.node c.steps.whole c.steps.invariant.tree
    (accesses_end first_shape tokens c.args.first.end c.steps.whole.end (expr_shape c.steps.names c.steps.whole.expr) c.steps.invariant.stage c.in_default.ensures.value c.in_default-mark_at.ensures.value)

pub by_index-returns-in-Err-clause-tree : goal.by_index-returns-in-Err-clause-tree
by_index-returns-in-Err-clause-tree t c =
    let tokens = lexemes c.args.pieces.now in
    let whole_shape = expr_shape c.args.names.now c.args.whole.expr in
    errs _ c.in-Err.fault _ _ c.refuse.ensures
    (fault_on (IndexStep whole_shape c.args.bracket) Expression 1 7 tokens c.args.names.now c.args.names.now _ (c.args.whole.end + 1) (c.args.whole.end + 1) c.in-Err.fault (omega arith)
    (λ to f. by_index_fails whole_shape c.args.bracket tokens (c.args.whole.end + 1) (shown_within c.args.pieces.now (c.args.whole.end + 1) c.requires.within) to f) c.in-Err.ensures.tree)

pub by_index-returns-then-is_none-clause-tree : goal.by_index-returns-then-is_none-clause-tree
by_index-returns-then-is_none-clause-tree t c =
    let tokens = lexemes c.args.pieces.now in
    let whole_shape = expr_shape c.args.names.now c.args.whole.expr in
    errs _ (fault.Unexpected c.in-Ok.at.end) _ _ c.refuse-then-is_none.ensures
    (fails_here (IndexStep whole_shape c.args.bracket) 1 tokens c.args.names.now c.expression.new.names (c.args.whole.end + 1) c.in-Ok.at.end (omega (arith, c.in-Ok.ensures.went.few))
    (by_index_open whole_shape c.args.bracket tokens (c.args.whole.end + 1) (shown_within c.args.pieces.now (c.args.whole.end + 1) c.requires.within) (expr_shape c.expression.new.names c.in-Ok.at.expr)
    c.in-Ok.at.end c.in-Ok.ensures.tree.reads (λ q is. told_none _ _ _ c.if-is_none.ensures c.mark_at.ensures.value q is)))

pub by_index-returns-clause-tree : goal.by_index-returns-clause-tree
by_index-returns-clause-tree t c =
    let tokens = lexemes c.args.pieces.now in
    let old = c.args.names.now in
    builds (IndexStep (expr_shape old c.args.whole.expr) c.args.bracket) 1 tokens old c.expression.new.names (expr_nodes c.args.whole.expr) (c.args.whole.end + 1) c.args.whole.node _ c.index.result
    (omega (arith, c.in-Ok.ensures.went.few, c.in-Ok.ensures.went.within, length-map c.args.pieces.now lexeme))
    (λ p same. let m : (q : Place) × (slice_get tokens c.in-Ok.at.end ≡ Some (Mark sign.CloseBracket q)) = told_some _ _ _ c.if-is_none.ensures c.mark_at.ensures.value in
    by_index_tree tokens old c.expression.new.names c.args.whole c.requires.known c.requires.bare c.in-Ok.ensures.grows p c.in-Ok.at c.args.bracket m.0 (shown_within c.args.pieces.now (c.args.whole.end + 1) c.requires.within) c.in-Ok.ensures.tree m.1 same)
    c.index.ensures

pub primary-returns-then-is_some-clause-tree : goal.primary-returns-then-is_some-clause-tree
primary-returns-then-is_some-clause-tree t c = c.call_or_type.ensures.tree

pub primary-returns-in-Some-clause-tree : goal.primary-returns-in-Some-clause-tree
primary-returns-in-Some-clause-tree t c =
    let tokens = lexemes c.args.pieces.now in
    let within = shown_within c.args.pieces.now c.args.from c.requires.can.within in
    leaf_tree Primary 1 tokens c.args.names.now c.args.from c.args.node c.leaf.result _
    (leaf_number c.args.names.now c.args.node c.leaf.result c.in-Some.place (c.args.from + 1) c.in-Some.value c.in-Some.suffix c.leaf.ensures) (ap (λ x. x.end) c.leaf.ensures)
    (numeral_reads tokens c.args.from within c.in-Some.place c.in-Some.value c.in-Some.suffix c.in-Some.ensures.value)

pub primary-returns-in-Some-key_at-clause-tree : goal.primary-returns-in-Some-key_at-clause-tree
primary-returns-in-Some-key_at-clause-tree t c =
    let tokens = lexemes c.args.pieces.now in
    let within = shown_within c.args.pieces.now c.args.from c.requires.can.within in
    leaf_tree Primary 1 tokens c.args.names.now c.args.from c.args.node c.leaf-in-Some-key_at.result _
    (leaf_true c.args.names.now c.args.node c.leaf-in-Some-key_at.result c.in-Some-key_at.place (c.args.from + 1) c.leaf-in-Some-key_at.ensures) (ap (λ x. x.end) c.leaf-in-Some-key_at.ensures)
    (true_reads tokens c.args.from within c.in-Some-key_at.place c.in-Some-key_at.ensures.value)

pub primary-returns-in-Some-key_at-2-clause-tree : goal.primary-returns-in-Some-key_at-2-clause-tree
primary-returns-in-Some-key_at-2-clause-tree t c =
    let tokens = lexemes c.args.pieces.now in
    let within = shown_within c.args.pieces.now c.args.from c.requires.can.within in
    leaf_tree Primary 1 tokens c.args.names.now c.args.from c.args.node c.leaf-in-Some-key_at-2.result _
    (leaf_false c.args.names.now c.args.node c.leaf-in-Some-key_at-2.result c.in-Some-key_at-2.place (c.args.from + 1) c.leaf-in-Some-key_at-2.ensures) (ap (λ x. x.end) c.leaf-in-Some-key_at-2.ensures)
    (false_reads tokens c.args.from within c.in-Some-key_at-2.place c.in-Some-key_at-2.ensures.value)

pub in_parens-returns-in_default-clause-tree : goal.in_parens-returns-in_default-clause-tree
in_parens-returns-in_default-clause-tree t c =
    let tokens = lexemes c.args.pieces.now in
    let within = shown_within c.args.pieces.now c.args.from c.requires.can.within in
    fails_here Primary 1 tokens c.args.names.now c.args.names.now c.args.from c.args.from (omega arith) (primary_stuck tokens c.args.from within c.requires.none c.in_default.ensures.value)

pub in_parens-returns-in_err-inner-clause-tree : goal.in_parens-returns-in_err-inner-clause-tree
in_parens-returns-in_err-inner-clause-tree t c =
    let tokens = lexemes c.args.pieces.now in
    let within = shown_within c.args.pieces.now c.args.from c.requires.can.within in
    errs _ c.in_err-inner.field-0.0 _ _ c.from_residual.ensures.1
    (fault_on Primary Expression 1 7 tokens c.args.names.now c.args.names.now _ c.args.from (c.args.from + 1) c.in_err-inner.field-0.0 (omega arith) (λ to f. paren_fails tokens c.args.from within c.in-Some.place c.in-Some.ensures.value to f) c.in_err-inner.ensures.tree)

pub in_parens-returns-then-is_none-clause-tree : goal.in_parens-returns-then-is_none-clause-tree
in_parens-returns-then-is_none-clause-tree t c =
    let tokens = lexemes c.args.pieces.now in
    let within = shown_within c.args.pieces.now c.args.from c.requires.can.within in
    errs _ (fault.Unexpected c.in_ok-inner.inner.end) _ _ c.refuse.ensures
    (fails_here Primary 1 tokens c.args.names.now c.expression.new.names c.args.from c.in_ok-inner.inner.end (omega (arith, c.in_ok-inner.ensures.went.few))
    (paren_open tokens c.args.from within c.in-Some.place c.in-Some.ensures.value (expr_shape c.expression.new.names c.in_ok-inner.inner.expr) c.in_ok-inner.inner.end c.in_ok-inner.ensures.tree.reads (λ q is. told_none _ _ _ c.if-is_none.ensures c.mark_at-2.ensures.value q is)))

pub in_parens-returns-clause-tree : goal.in_parens-returns-clause-tree
in_parens-returns-clause-tree t c =
    let tokens = lexemes c.args.pieces.now in
    let within = shown_within c.args.pieces.now c.args.from c.requires.can.within in
    builds Primary 1 tokens c.args.names.now c.expression.new.names [] c.args.from c.args.node _ c.paren.result
    (omega (arith, c.in_ok-inner.ensures.went.few, c.in_ok-inner.ensures.went.within, length-map c.args.pieces.now lexeme))
    (λ p same. let m : (q : Place) × (slice_get tokens c.in_ok-inner.inner.end ≡ Some (Mark sign.Close q)) = told_some _ _ _ c.if-is_none.ensures c.mark_at-2.ensures.value in
    paren_tree tokens c.expression.new.names c.args.from c.args.node within p c.in_ok-inner.inner c.in-Some.place m.0 c.in-Some.ensures.value c.in_ok-inner.ensures.tree m.1 same)
    c.paren.ensures

pub call_or_type-returns-in_err-callee-clause-tree : goal.call_or_type-returns-in_err-callee-clause-tree
call_or_type-returns-in_err-callee-clause-tree t c =
    let tokens = lexemes c.args.pieces.now in
    let within = shown_within c.args.pieces.now c.args.from c.requires.can.within in
    errs _ c.in_err-callee.field-0.0 _ _ c.from_residual.ensures.1
    (fault_on Primary TypeName 1 0 tokens c.args.names.now c.args.names.now _ c.args.from c.args.from c.in_err-callee.field-0.0 (omega arith) (λ to f. word_fails tokens c.args.from within c.requires.word to f) c.in_err-callee.ensures.tree)

pub call_or_type-returns-then-is_none-clause-tree : goal.call_or_type-returns-then-is_none-clause-tree
call_or_type-returns-then-is_none-clause-tree t c =
    let tokens = lexemes c.args.pieces.now in
    let within = shown_within c.args.pieces.now c.args.from c.requires.can.within in
    read_as Primary TypeName 1 0 tokens _ _ _ _ _ c.in_ok-callee.ensures.tree (λ x. word_alone tokens c.args.from within c.requires.word _ _ x (λ q is. told_none _ _ _ c.if-is_none.ensures c.mark_at.ensures.value q is))

pub call_or_type-returns-clause-tree : goal.call_or_type-returns-clause-tree
call_or_type-returns-clause-tree t c =
    let tokens = lexemes c.args.pieces.now in
    let within = shown_within c.args.pieces.now c.args.from c.requires.can.within in
    let callee_shape = expr_shape c.type_name.new.names c.in_ok-callee.callee.expr in
    let m : (q : Place) × (slice_get tokens c.in_ok-callee.callee.end ≡ Some (Mark sign.Open q)) = told_some _ _ _ c.if-is_none.ensures c.mark_at.ensures.value in
    goes_on Primary (Called callee_shape) 1 1 tokens c.args.names.now c.type_name.new.names c.called.new.names c.args.from c.args.node (c.in_ok-callee.callee.end + 1) c.in_ok-callee.callee c.called.result
    (omega (arith, c.in_ok-callee.ensures.went.few)) c.in_ok-callee.ensures.tree.nodes
    (λ e to y. word_call tokens c.args.from within c.requires.word callee_shape c.in_ok-callee.callee.end c.in_ok-callee.ensures.tree.reads m.0 m.1 to e y)
    (λ to y. word_call_fails tokens c.args.from within c.requires.word callee_shape c.in_ok-callee.callee.end c.in_ok-callee.ensures.tree.reads m.0 m.1 to y)
    c.called.ensures.tree

pub called-returns-in-Err-clause-tree : goal.called-returns-in-Err-clause-tree
called-returns-in-Err-clause-tree t c =
    let tokens = lexemes c.args.pieces.now in
    let callee_shape = expr_shape c.args.names.now c.args.callee.expr in
    errs _ c.in-Err.fault _ _ c.refuse.ensures
    (fault_on (Called callee_shape) (Closed (MaybeListed Expression) (Mark sign.Close)) 1 0 tokens c.args.names.now c.args.names.now _ (c.args.callee.end + 1) (c.args.callee.end + 1) c.in-Err.fault
    (omega arith) (λ to f. called_fails callee_shape tokens (c.args.callee.end + 1) (shown_within c.args.pieces.now (c.args.callee.end + 1) c.requires.within) to f) c.in-Err.ensures.tree)

pub called-returns-clause-tree : goal.called-returns-clause-tree
called-returns-clause-tree t c =
    let tokens = lexemes c.args.pieces.now in
    let old = c.args.names.now in
    builds (Called (expr_shape old c.args.callee.expr)) 1 tokens old c.arguments.new.names (expr_nodes c.args.callee.expr) (c.args.callee.end + 1) c.args.callee.node _ c.call.result
    (omega (arith, c.in-Ok.ensures.went.few, c.in-Ok.ensures.went.within, length-map c.args.pieces.now lexeme))
    (λ p same. called_tree tokens old c.arguments.new.names c.args.callee c.requires.known c.requires.bare c.in-Ok.ensures.grows p c.in-Ok.list (shown_within c.args.pieces.now (c.args.callee.end + 1) c.requires.within) c.in-Ok.ensures.tree same)
    c.call.ensures

pub type_name-returns-in_default-clause-tree : goal.type_name-returns-in_default-clause-tree
type_name-returns-in_default-clause-tree t c =
    let tokens = lexemes c.args.pieces.now in
    let within = shown_within c.args.pieces.now c.args.from c.requires.can.within in
    fails_here TypeName 0 tokens c.args.names.now c.args.names.now c.args.from c.args.from (omega arith) (type_stuck tokens c.args.from within c.in_default.ensures.value)

pub type_name-returns-in_err-name-clause-tree : goal.type_name-returns-in_err-name-clause-tree
type_name-returns-in_err-name-clause-tree t c =
    let tokens = lexemes c.args.pieces.now in
    errs _ c.in_err-name.field-0.0 _ _ c.from_residual.ensures.1 (no_memory TypeName 0 tokens c.args.names.now c.number.new.names c.args.from c.in_err-name.field-0.0 c.in_err-name.ensures.text (omega (arith, c.number.ensures.few, c.in-Some.ensures.within, length-map c.args.pieces.now lexeme)))

pub type_name-returns-then-is_none-clause-tree : goal.type_name-returns-then-is_none-clause-tree
type_name-returns-then-is_none-clause-tree t c =
    let tokens = lexemes c.args.pieces.now in
    let within = shown_within c.args.pieces.now c.args.from c.requires.can.within in
    leaf_tree TypeName 0 tokens c.number.new.names c.args.from c.args.node c.leaf.result _
    (leaf_name c.number.new.names c.args.node c.leaf.result c.in-Some.place (c.args.from + 1) c.in_ok-name.name _ c.leaf.ensures c.in_ok-name.ensures.text) (ap (λ x. x.end) c.leaf.ensures)
    (type_alone tokens c.args.from within _ c.in-Some.place c.in-Some.ensures.value (λ q is. told_none _ _ _ c.if-is_none.ensures c.mark_at.ensures.value q is))

pub type_name-returns-in_err-arguments-clause-tree : goal.type_name-returns-in_err-arguments-clause-tree
type_name-returns-in_err-arguments-clause-tree t c =
    let tokens = lexemes c.args.pieces.now in
    let within = shown_within c.args.pieces.now c.args.from c.requires.can.within in
    errs _ c.in_err-arguments.field-0.0 _ _ c.from_residual-in_err-arguments.ensures.1
    (fault_on TypeName (Closed (Listed Expression) (Mark sign.CloseTemplate)) 0 0 tokens c.args.names.now c.number.new.names _ c.args.from (c.args.from + 2) c.in_err-arguments.field-0.0
    (omega (arith, c.number.ensures.few))
    (λ to f. let m : (q : Place) × (slice_get tokens (c.args.from + 1) ≡ Some (Mark sign.OpenTemplate q)) = told_some _ _ _ c.if-is_none.ensures c.mark_at.ensures.value in template_fails tokens c.args.from within _ c.in-Some.place c.in-Some.ensures.value m.0 m.1 to f)
    c.in_err-arguments.ensures.tree)

pub type_name-returns-clause-tree : goal.type_name-returns-clause-tree
type_name-returns-clause-tree t c =
    let tokens = lexemes c.args.pieces.now in
    let within = shown_within c.args.pieces.now c.args.from c.requires.can.within in
    let m : (q : Place) × (slice_get tokens (c.args.from + 1) ≡ Some (Mark sign.OpenTemplate q)) = told_some _ _ _ c.if-is_none.ensures c.mark_at.ensures.value in template_tree tokens c.list.new.names
    c.args.from c.args.node within c.template.result c.in_ok-arguments.arguments c.in-Some.place m.0 c.in_ok-name.name _ c.in-Some.ensures.value
    (name_stays c.number.new.names c.list.new.names c.in_ok-name.name _ c.in_ok-name.ensures.text c.in_ok-arguments.ensures.grows) m.1 c.in_ok-arguments.ensures.tree c.template.ensures

pub arguments-returns-then-is_some-clause-tree : goal.arguments-returns-then-is_some-clause-tree
arguments-returns-then-is_some-clause-tree t c =
    let tokens = lexemes c.args.pieces.now in
    let within = shown_within c.args.pieces.now c.args.from c.requires.can.within in
    let m : (q : Place) × (slice_get tokens c.args.from ≡ Some (Mark sign.Close q)) = told_some _ _ _ (sym c.if-is_some.ensures) c.mark_at.ensures.value in subst
    (λ l. ReadsList (Closed (MaybeListed Expression) (Mark sign.Close)) 0 tokens c.args.names.now c.args.from c.args.node (record { items = l; trailing = false; end = c.args.from + 1; node = c.args.node }))
    (sym c.new.ensures) (record { reads = arguments_none tokens c.args.from within m.0 m.1; known = omega arith; nodes = refl })

pub arguments-returns-clause-tree : goal.arguments-returns-clause-tree
arguments-returns-clause-tree t c =
    let tokens = lexemes c.args.pieces.now in
    let within = shown_within c.args.pieces.now c.args.from c.requires.can.within in
    let told = sym c.if-is_some.ensures in
    lists_as (Closed (MaybeListed Expression) (Mark sign.Close)) (Closed (Listed Expression) (Mark sign.Close)) 0 0 tokens c.args.names.now c.list.new.names c.args.from c.args.node c.list.result
    (λ e to y. arguments_reads tokens c.args.from within (λ q is. told_none _ _ _ told c.mark_at.ensures.value q is) e to y)
    (λ to y. arguments_fails tokens c.args.from within (λ q is. told_none _ _ _ told c.mark_at.ensures.value q is) to y) c.list.ensures.tree

pub list-items-init : goal.list-items-init
list-items-init t c = turn_list c.args.closer c.requires.closes (lexemes c.args.pieces.now) (length c.args.pieces.now) c.args.names.now c.args.from c.args.start _ c.new-items.ensures (shown_within c.args.pieces.now c.args.from c.requires.can.within) c.requires.can.within

pub list-returns-in_err-item-clause-tree : goal.list-returns-in_err-item-clause-tree
list-returns-in_err-item-clause-tree t c =
    let tokens = lexemes c.args.pieces.now in
    errs _ c.in_err-item.field-0.0 _ _ c.from_residual.ensures.1
    (fault_on (Closed (Listed Expression) (Mark c.args.closer)) Expression 0 7 tokens c.args.names.now c.items.names _ c.args.from c.items.at c.in_err-item.field-0.0 (c.items.invariant.few)
    (λ to f. turn_item_fails c.args.closer c.requires.closes tokens (length c.args.pieces.now) c.args.names.now c.items.names c.expression.new.names c.args.from c.args.start c.items.items c.items.items c.items.at c.items.node c.items.invariant to f)
    c.in_err-item.ensures.tree)

pub list-returns-in_err-push-clause-tree : goal.list-returns-in_err-push-clause-tree
list-returns-in_err-push-clause-tree t c =
    let tokens = lexemes c.args.pieces.now in
    errs _ c.in_err-push.field-0.0 _ _ c.from_residual-in_err-push.ensures.1
    (no_memory (Closed (Listed Expression) (Mark c.args.closer)) 0 tokens c.args.names.now c.expression.new.names c.args.from c.in_err-push.field-0.0 c.in_err-push.ensures
    (omega (arith, c.items.invariant.few, c.in_ok-item.ensures.went.few, c.in_ok-item.ensures.went.within, length-map c.args.pieces.now lexeme)))

pub list-returns-then-is_some-clause-tree : goal.list-returns-then-is_some-clause-tree
list-returns-then-is_some-clause-tree t c =
    let tokens = lexemes c.args.pieces.now in
    let m : (q : Place) × (slice_get tokens c.in_ok-item.item.end ≡ Some (Mark c.args.closer q)) = told_some _ _ _ (sym c.if-is_some.ensures) c.mark_at.ensures.value in turn_close c.args.closer
    c.requires.closes tokens (length c.args.pieces.now) c.args.names.now c.items.names c.expression.new.names c.args.from c.args.start c.items.items c.push.new.items c.items.at c.items.node
    c.items.invariant c.in_ok-item.ensures.grows c.in_ok-item.item c.in_ok-item.ensures.tree c.in_ok-push.ensures c.listing.result m.0 m.1 c.listing.ensures

pub list-returns-then-is_none-clause-tree : goal.list-returns-then-is_none-clause-tree
list-returns-then-is_none-clause-tree t c =
    let tokens = lexemes c.args.pieces.now in
    fails_here (Closed (Listed Expression) (Mark c.args.closer)) 0 tokens c.args.names.now c.expression.new.names c.args.from c.in_ok-item.item.end
    (omega (arith, c.items.invariant.few, c.in_ok-item.ensures.went.few))
    (turn_stuck c.args.closer c.requires.closes tokens (length c.args.pieces.now) c.args.names.now c.items.names c.expression.new.names c.args.from c.args.start c.items.items c.push.new.items c.items.at
    c.items.node c.items.invariant c.in_ok-item.ensures.grows c.in_ok-item.item c.in_ok-item.ensures.tree c.in_ok-push.ensures
    (λ q is. told_none _ _ _ (sym c.if-is_some.ensures) c.mark_at.ensures.value q is) (λ q is. told_none _ _ _ c.if-is_none.ensures c.mark_at-in-items.ensures.value q is))

pub list-returns-then-is_some-2-clause-tree : goal.list-returns-then-is_some-2-clause-tree
list-returns-then-is_some-2-clause-tree t c =
    let tokens = lexemes c.args.pieces.now in
    let m : (q : Place) × (slice_get tokens c.in_ok-item.item.end ≡ Some (Mark sign.Comma q)) = told_some _ _ _ (c.if-is_none.ensures) c.mark_at-in-items.ensures.value in let k : (q : Place) ×
    (slice_get tokens (c.in_ok-item.item.end + 1) ≡ Some (Mark c.args.closer q)) = told_some _ _ _ (sym c.if-is_some-2.ensures) c.mark_at-in-items-2.ensures.value in turn_comma_close c.args.closer
    c.requires.closes tokens (length c.args.pieces.now) c.args.names.now c.items.names c.expression.new.names c.args.from c.args.start c.items.items c.push.new.items c.items.at c.items.node
    c.items.invariant c.in_ok-item.ensures.grows c.in_ok-item.item c.in_ok-item.ensures.tree c.in_ok-push.ensures m.0 m.1 c.listing-then-is_some-2.result k.0 k.1 c.listing-then-is_some-2.ensures

pub list-items-preserved : goal.list-items-preserved
list-items-preserved t c =
    let tokens = lexemes c.args.pieces.now in
    let m : (q : Place) × (slice_get tokens c.in_ok-item.item.end ≡ Some (Mark sign.Comma q)) = told_some _ _ _ (c.if-is_none.ensures) c.mark_at-in-items.ensures.value in turn_more c.args.closer
    c.requires.closes tokens (length c.args.pieces.now) c.args.names.now c.items.names c.expression.new.names c.args.from c.args.start c.items.items c.push.new.items c.items.at c.items.node
    c.items.invariant c.in_ok-item.ensures.grows c.in_ok-item.item c.in_ok-item.ensures.tree c.in_ok-push.ensures m.0 m.1
    (λ q is. told_none _ _ _ (sym c.if-is_some-2.ensures) c.mark_at-in-items-2.ensures.value q is) c.in_ok-item.ensures.went.further
    (omega (arith, slice_get_within tokens c.in_ok-item.item.end _ m.1, length-map c.args.pieces.now lexeme)) c.in_ok-item.ensures.went.numbered c.in_ok-item.ensures.went.few

pub call_or_type-called-requires : goal.call_or_type-called-requires
call_or_type-called-requires t c =
    let tokens = lexemes c.args.pieces.now in
    let m : (q : Place) × (slice_get tokens c.in_ok-callee.callee.end ≡ Some (Mark sign.Open q)) = told_some _ _ _ c.if-is_none.ensures c.mark_at.ensures.value in let fits : c.in_ok-callee.callee.end + 1
    ≤ length c.args.pieces.now = omega (arith, slice_get_within tokens c.in_ok-callee.callee.end _ m.1, length-map c.args.pieces.now lexeme) in search (rules, arith)

pub type_name-list-requires : goal.type_name-list-requires
type_name-list-requires t c =
    let tokens = lexemes c.args.pieces.now in
    let m : (q : Place) × (slice_get tokens (c.args.from + 1) ≡ Some (Mark sign.OpenTemplate q)) = told_some _ _ _ c.if-is_none.ensures c.mark_at.ensures.value in let fits : c.args.from + 2 ≤ length
    c.args.pieces.now = omega (arith, slice_get_within tokens (c.args.from + 1) _ m.1, length-map c.args.pieces.now lexeme) in search (rules, arith)

pub expression-returns-clause-grows : goal.expression-returns-clause-grows
expression-returns-clause-grows t c = grows_trans _ _ _ c.in_ok-left.ensures.grows c.joined.ensures.grows

pub joined-returns-in-Err-clause-grows : goal.joined-returns-in-Err-clause-grows
joined-returns-in-Err-clause-grows t c = grows_trans _ _ _ c.joints.invariant.grows c.in-Err.ensures.grows

pub joined-returns-in_err-left-clause-grows : goal.joined-returns-in_err-left-clause-grows
joined-returns-in_err-left-clause-grows t c = grows_trans _ _ _ c.joints.invariant.grows c.in-Ok.ensures.grows

pub relational-returns-in_default-clause-grows : goal.relational-returns-in_default-clause-grows
relational-returns-in_default-clause-grows t c = grows_trans _ _ _ c.in_ok-left.ensures.grows c.compared.ensures.grows

pub relational-returns-in-Err-clause-grows : goal.relational-returns-in-Err-clause-grows
relational-returns-in-Err-clause-grows t c = grows_trans _ _ _ c.in_ok-left.ensures.grows c.in-Err.ensures.grows

pub relational-returns-in_err-left-2-clause-grows : goal.relational-returns-in_err-left-2-clause-grows
relational-returns-in_err-left-2-clause-grows t c = grows_trans _ _ _ c.in_ok-left.ensures.grows c.in-Ok.ensures.grows

pub relational-returns-clause-grows : goal.relational-returns-clause-grows
relational-returns-clause-grows t c = grows_trans _ _ _ c.in_ok-left.ensures.grows (grows_trans _ _ _ c.in-Ok.ensures.grows c.compared-2.ensures.grows)

pub shift-returns-in-Err-clause-grows : goal.shift-returns-in-Err-clause-grows
shift-returns-in-Err-clause-grows t c = grows_trans _ _ _ c.in_ok-left.ensures.grows c.in-Err.ensures.grows

pub shift-returns-clause-grows : goal.shift-returns-clause-grows
shift-returns-clause-grows t c = grows_trans _ _ _ c.in_ok-left.ensures.grows c.in-Ok.ensures.grows

pub additive-returns-in-Err-clause-grows : goal.additive-returns-in-Err-clause-grows
additive-returns-in-Err-clause-grows t c = grows_trans _ _ _ c.terms.invariant.grows c.in-Err.ensures.grows

pub additive-returns-in_err-left-2-clause-grows : goal.additive-returns-in_err-left-2-clause-grows
additive-returns-in_err-left-2-clause-grows t c = grows_trans _ _ _ c.terms.invariant.grows c.in-Ok.ensures.grows

pub multiplicative-returns-in-Err-clause-grows : goal.multiplicative-returns-in-Err-clause-grows
multiplicative-returns-in-Err-clause-grows t c = grows_trans _ _ _ c.factors.invariant.grows c.in-Err.ensures.grows

pub multiplicative-returns-in_err-left-2-clause-grows : goal.multiplicative-returns-in_err-left-2-clause-grows
multiplicative-returns-in_err-left-2-clause-grows t c = grows_trans _ _ _ c.factors.invariant.grows c.in-Ok.ensures.grows

pub singular-returns-clause-grows : goal.singular-returns-clause-grows
singular-returns-clause-grows t c = grows_trans _ _ _ c.in_ok-whole.ensures.grows c.accesses.ensures.grows

pub accesses-returns-in_err-whole-clause-grows : goal.accesses-returns-in_err-whole-clause-grows
accesses-returns-in_err-whole-clause-grows t c = grows_trans _ _ _ c.steps.invariant.grows c.in_err-whole.ensures.grows

pub accesses-returns-in_err-whole-2-clause-grows : goal.accesses-returns-in_err-whole-2-clause-grows
accesses-returns-in_err-whole-2-clause-grows t c = grows_trans _ _ _ c.steps.invariant.grows c.in_err-whole-2.ensures.grows

pub call_or_type-returns-clause-grows : goal.call_or_type-returns-clause-grows
call_or_type-returns-clause-grows t c = grows_trans _ _ _ c.in_ok-callee.ensures.grows c.called.ensures.grows

pub type_name-returns-in_err-arguments-clause-grows : goal.type_name-returns-in_err-arguments-clause-grows
type_name-returns-in_err-arguments-clause-grows t c = grows_trans _ _ _ c.number.ensures.grows c.in_err-arguments.ensures.grows

pub type_name-returns-clause-grows : goal.type_name-returns-clause-grows
type_name-returns-clause-grows t c = grows_trans _ _ _ c.number.ensures.grows c.in_ok-arguments.ensures.grows

pub list-returns-in_err-item-clause-grows : goal.list-returns-in_err-item-clause-grows
list-returns-in_err-item-clause-grows t c = grows_trans _ _ _ c.items.invariant.grows c.in_err-item.ensures.grows

pub list-returns-in_err-push-clause-grows : goal.list-returns-in_err-push-clause-grows
list-returns-in_err-push-clause-grows t c = grows_trans _ _ _ c.items.invariant.grows c.in_ok-item.ensures.grows

pub list-returns-then-is_some-clause-grows : goal.list-returns-then-is_some-clause-grows
list-returns-then-is_some-clause-grows t c = grows_trans _ _ _ c.items.invariant.grows c.in_ok-item.ensures.grows

pub list-returns-then-is_none-clause-grows : goal.list-returns-then-is_none-clause-grows
list-returns-then-is_none-clause-grows t c = grows_trans _ _ _ c.items.invariant.grows c.in_ok-item.ensures.grows

pub list-returns-then-is_some-2-clause-grows : goal.list-returns-then-is_some-2-clause-grows
list-returns-then-is_some-2-clause-grows t c = grows_trans _ _ _ c.items.invariant.grows c.in_ok-item.ensures.grows

use Rattle.std.proofs.Common.{ap, arith, slice_get, ◌+◌, ◌≡◌, [], Some}
use Rattle.shade_ast.specs.Steps.{AccessStep, LeftFirst}
use Rattle.shade_ast.proofs.LeftLaws.{left_accesses}
use Rattle.shade_ast.specs.Chains.{Tail}
use Rattle.shade_ast.proofs.Tails.{left_first, left_first_fails}
use Rattle.shade_ast.proofs.ShapeLaws.{grows_trans}
use Rattle.shade_ast.specs.Expressions.{LeftSide, LeftSingular, left_singular}
use Rattle.shade_ast.specs.Lexemes.{Mark}
use Rattle.shade_ast.specs.Shaped.{expr_shape}
use Rattle.shade_base.specs.declared.place.Place.{Place}
use Rattle.shade_parse_expr.proofs.Accesses.{left_paren_tree}
use Rattle.shade_parse_expr.proofs.Chains.{then_fails, then_reads}
use Rattle.shade_parse_expr.proofs.Listings.{left_name_reads, left_paren_fails, left_paren_open, left_stuck}
use Rattle.shade_parse_expr.proofs.Prefixes.{free_fails, free_reads, left_by, left_free, left_there, prefix_fails, prefix_reads}
use Rattle.shade_parse_expr.proofs.Readings.{builds, goes_as, goes_on, leaf_tree, prefix_tree}
use Rattle.shade_cursor.proofs.Tokens.{shown_within, told_none, told_some}
use Rattle.shade_parse_expr.proofs.Trees.{leaf_name, tree_of}
use Rattle.shade_parse_expr.proofs.Turns.{errs, fails_here, fault_on, no_memory}
use Rattle.shade_cursor.specs.Operators.{left_prefix_of}
use Rattle.shade_cursor.specs.Shown.{lexeme, lexemes}
use Rattle.std.proofs.lemmas.List.{length-map}
use Rattle.shade_ast.specs.declared.lexeme.Sign.TheVariants as sign
use Rattle.shade_cursor.specs.declared.part.Fault.TheVariants as fault
use Rattle.shade_parse_expr.proofs.parse.+lefts.Goals as goal

pub left_side-returns-in_default-clause-tree : goal.left_side-returns-in_default-clause-tree
left_side-returns-in_default-clause-tree t c =
    let tokens = lexemes c.args.pieces.now in
    let within = shown_within c.args.pieces.now c.args.from c.requires.can.within in
    goes_as LeftSide LeftSingular 2 2 tokens c.args.names.now c.left_singular.new.names c.args.from c.args.node c.left_singular.result
    (λ e to y. free_reads left_prefix_of LeftSide LeftSingular left_there left_by (λ r ts w g. left_singular g) left_free tokens c.args.from within c.in_default.ensures.value to e y)
    (λ to y. free_fails left_prefix_of LeftSide LeftSingular left_there left_by (λ r ts w g. left_singular g) left_free tokens c.args.from within c.in_default.ensures.value to y)
    c.left_singular.ensures.tree

pub left_side-returns-in_err-operand-clause-tree : goal.left_side-returns-in_err-operand-clause-tree
left_side-returns-in_err-operand-clause-tree t c =
    let tokens = lexemes c.args.pieces.now in
    let within = shown_within c.args.pieces.now c.args.from c.requires.can.within in
    errs _ c.in_err-operand.field-0.0 _ _ c.from_residual.ensures.1
    (fault_on LeftSide LeftSide 2 2 tokens c.args.names.now c.args.names.now _ c.args.from (c.args.from + 1) c.in_err-operand.field-0.0 (omega arith)
    (λ to f. prefix_fails left_prefix_of LeftSide LeftSingular left_there left_by (λ r ts w g. left_singular g) left_free tokens c.args.from within c.in-Some.operator c.in-Some.place c.in-Some.ensures.value to f)
    c.in_err-operand.ensures.tree)

pub left_side-returns-clause-tree : goal.left_side-returns-clause-tree
left_side-returns-clause-tree t c =
    let tokens = lexemes c.args.pieces.now in
    let within = shown_within c.args.pieces.now c.args.from c.requires.can.within in
    builds LeftSide 2 tokens c.args.names.now c.left_side.new.names [] c.args.from c.args.node _ c.prefix.result
    (omega (arith, c.in_ok-operand.ensures.went.few, c.in_ok-operand.ensures.went.within, length-map c.args.pieces.now lexeme))
    (λ p same. prefix_tree LeftSide 2 tokens c.left_side.new.names [] c.args.from c.args.node p c.in_ok-operand.operand c.in-Some.operator c.in-Some.place same
    (tree_of LeftSide 2 tokens c.left_side.new.names [] (c.args.from + 1) c.args.node c.in_ok-operand.operand c.in_ok-operand.ensures.tree)
    (prefix_reads left_prefix_of LeftSide LeftSingular left_there left_by (λ r ts w g. left_singular g) left_free tokens c.args.from within c.in-Some.operator c.in-Some.place c.in-Some.ensures.value
    (expr_shape c.left_side.new.names c.in_ok-operand.operand.expr) c.in_ok-operand.operand.end c.in_ok-operand.ensures.tree.reads))
    c.prefix.ensures

pub left_singular-returns-in_err-whole-clause-tree : goal.left_singular-returns-in_err-whole-clause-tree
left_singular-returns-in_err-whole-clause-tree t c =
    let tokens = lexemes c.args.pieces.now in
    let within = shown_within c.args.pieces.now c.args.from c.requires.can.within in
    errs _ c.in_err-whole.field-0.0 _ _ c.from_residual.ensures.1
    (fault_on LeftSingular LeftFirst 2 1 tokens c.args.names.now c.args.names.now _ c.args.from c.args.from c.in_err-whole.field-0.0 (omega arith)
    (λ to f. left_first_fails LeftSingular LeftFirst AccessStep 2 1 left_accesses tokens c.args.from to within f) c.in_err-whole.ensures.tree)

pub left_singular-returns-clause-tree : goal.left_singular-returns-clause-tree
left_singular-returns-clause-tree t c =
    let tokens = lexemes c.args.pieces.now in
    let within = shown_within c.args.pieces.now c.args.from c.requires.can.within in
    let whole_shape = expr_shape c.left_first.new.names c.in_ok-whole.whole.expr in
    let rest = Tail AccessStep whole_shape in
    let stage = left_first LeftSingular LeftFirst AccessStep 2 1 left_accesses tokens c.args.from c.in_ok-whole.whole.end whole_shape within c.in_ok-whole.ensures.tree.reads in
    goes_on LeftSingular rest 2 2 tokens c.args.names.now c.left_first.new.names c.accesses.new.names c.args.from c.args.node c.in_ok-whole.whole.end c.in_ok-whole.whole c.accesses.result
    (c.in_ok-whole.ensures.went.few) c.in_ok-whole.ensures.tree.nodes (λ e to y. then_reads LeftSingular rest 2 tokens c.args.from c.in_ok-whole.whole.end to stage e y)
    (λ to y. then_fails LeftSingular rest 2 tokens c.args.from c.in_ok-whole.whole.end to stage y) c.accesses.ensures.tree

pub left_first-returns-in_err-name-clause-tree : goal.left_first-returns-in_err-name-clause-tree
left_first-returns-in_err-name-clause-tree t c =
    let tokens = lexemes c.args.pieces.now in
    errs _ c.in_err-name.field-0.0 _ _ c.from_residual.ensures.1 (no_memory LeftFirst 1 tokens c.args.names.now c.number.new.names c.args.from c.in_err-name.field-0.0 c.in_err-name.ensures.text (omega (arith, c.number.ensures.few, c.in-Some.ensures.within, length-map c.args.pieces.now lexeme)))

pub left_first-returns-in-Some-clause-tree : goal.left_first-returns-in-Some-clause-tree
left_first-returns-in-Some-clause-tree t c =
    let tokens = lexemes c.args.pieces.now in
    let within = shown_within c.args.pieces.now c.args.from c.requires.can.within in
    leaf_tree LeftFirst 1 tokens c.number.new.names c.args.from c.args.node c.leaf.result _
    (leaf_name c.number.new.names c.args.node c.leaf.result c.in-Some.place (c.args.from + 1) c.in_ok-name.name _ c.leaf.ensures c.in_ok-name.ensures.text) (ap (λ x. x.end) c.leaf.ensures)
    (left_name_reads tokens c.args.from within _ c.in-Some.place c.in-Some.ensures.value)

pub left_first-returns-in_default-mark_at-clause-tree : goal.left_first-returns-in_default-mark_at-clause-tree
left_first-returns-in_default-mark_at-clause-tree t c =
    let tokens = lexemes c.args.pieces.now in
    let within = shown_within c.args.pieces.now c.args.from c.requires.can.within in
    fails_here LeftFirst 1 tokens c.args.names.now c.args.names.now c.args.from c.args.from (omega arith) (left_stuck tokens c.args.from within c.in_default.ensures.value c.in_default-mark_at.ensures.value)

pub left_first-returns-in_err-inner-clause-tree : goal.left_first-returns-in_err-inner-clause-tree
left_first-returns-in_err-inner-clause-tree t c =
    let tokens = lexemes c.args.pieces.now in
    let within = shown_within c.args.pieces.now c.args.from c.requires.can.within in
    errs _ c.in_err-inner.field-0.0 _ _ c.from_residual-in_err-inner.ensures.1
    (fault_on LeftFirst LeftSide 1 2 tokens c.args.names.now c.args.names.now _ c.args.from (c.args.from + 1) c.in_err-inner.field-0.0 (omega arith)
    (λ to f. left_paren_fails tokens c.args.from within c.in-Some-mark_at.place c.in-Some-mark_at.ensures.value to f) c.in_err-inner.ensures.tree)

pub left_first-returns-then-is_none-clause-tree : goal.left_first-returns-then-is_none-clause-tree
left_first-returns-then-is_none-clause-tree t c =
    let tokens = lexemes c.args.pieces.now in
    let within = shown_within c.args.pieces.now c.args.from c.requires.can.within in
    errs _ (fault.Unexpected c.in_ok-inner.inner.end) _ _ c.refuse.ensures
    (fails_here LeftFirst 1 tokens c.args.names.now c.left_side.new.names c.args.from c.in_ok-inner.inner.end (omega (arith, c.in_ok-inner.ensures.went.few))
    (left_paren_open tokens c.args.from within c.in-Some-mark_at.place c.in-Some-mark_at.ensures.value (expr_shape c.left_side.new.names c.in_ok-inner.inner.expr) c.in_ok-inner.inner.end
    c.in_ok-inner.ensures.tree.reads (λ q is. told_none _ _ _ c.if-is_none.ensures c.mark_at-2.ensures.value q is)))

pub left_first-returns-clause-tree : goal.left_first-returns-clause-tree
left_first-returns-clause-tree t c =
    let tokens = lexemes c.args.pieces.now in
    let within = shown_within c.args.pieces.now c.args.from c.requires.can.within in
    builds LeftFirst 1 tokens c.args.names.now c.left_side.new.names [] c.args.from c.args.node _ c.paren.result
    (omega (arith, c.in_ok-inner.ensures.went.few, c.in_ok-inner.ensures.went.within, length-map c.args.pieces.now lexeme))
    (λ p same. let m : (q : Place) × (slice_get tokens c.in_ok-inner.inner.end ≡ Some (Mark sign.Close q)) = told_some _ _ _ c.if-is_none.ensures c.mark_at-2.ensures.value in
    left_paren_tree tokens c.left_side.new.names c.args.from c.args.node within p c.in_ok-inner.inner c.in-Some-mark_at.place m.0 c.in-Some-mark_at.ensures.value c.in_ok-inner.ensures.tree m.1 same)
    c.paren.ensures

pub left_singular-returns-clause-grows : goal.left_singular-returns-clause-grows
left_singular-returns-clause-grows t c = grows_trans _ _ _ c.in_ok-whole.ensures.grows c.accesses.ensures.grows

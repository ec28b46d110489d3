-- Trees built by hand, with the tokens that they spell.
use Rattle.std.proofs.Common.{ap, ◌≡◌, refl, sym, ◌∙◌, subst, ℕ, true, false, List, [], ◌∷◌, ◌++◌, codes, None, Some}
use Rattle.shade_base.specs.declared.place.Place.{Place}
use Rattle.shade_lex.specs.declared.token.Suffix.TheVariants as suffix
use Rattle.shade_ast.specs.declared.lexeme.Keyword.TheVariants as word
use Rattle.shade_ast.specs.declared.lexeme.Sign.TheVariants as sign
use Rattle.shade_ast.specs.declared.expr.Infix.TheVariants as between
use Rattle.shade_ast.specs.Lexemes.{Lexeme, Word, Key, Number, Mark, Adjacent}
use Rattle.shade_ast.specs.declared.stmt.OpAssign.TheVariants as assigns
use Rattle.shade_ast.specs.Shapes.{ExprShape, infixed, template, named, number, no_exprs, exprs, VarShape, compound, value_selector, default_selector, loop_stmt, if_stmt, switch_stmt, for_stmt, no_stmts, braces, else_arm, else_if_arm, case_clause, no_clauses, continuing_part, assert_decl, var_decl}
use Rattle.shade_ast.specs.Shaped.{expr_shape}
use Rattle.shade_ast.specs.Repeats.{no_more, more, absent, present, last, comma}
use Rattle.shade_ast.specs.Expressions.{Expression, Shift, Primary, relational, shifted, greater_equal, additive, multiplicative, unary, operand, primary, typed, numeral, plain_type, template_type, last_expr_comma, left_singular, left_name}
use Rattle.shade_ast.specs.Statements.{of_type, var_space, var, no_mark, some_mark, compounded, shift_right_assigns, selects_value, selects_default, breaks_if, Block, block, no_statement, Statement, is_if, is_switch, is_loop, is_for, otherwise, else_if, case, no_clause, continuing}
use Rattle.shade_ast.specs.Declarations.{Module, assertion, variable, whole}
use Rattle.shade_ast.specs.Spells.{Spells}
use Rattle.shade_front_tests.specs.Samples.{first_line, assert_lexemes, assert_left, assert_right, assert_condition, assert_tree, var_lexemes, var_element, var_type, var_tree}
use Rattle.shade_ast.specs.Nodes.{CountFrom, expr_nodes, tree_nodes}
use Rattle.shade_ast.proofs.ExprNodes.{expr_numbers, nodes-Infix, nodes-Name, nodes-Number}
use Rattle.shade_ast.proofs.ExprLayers.{expr_is, shape-Infix, shape-Name, shape-Number, shape-Template}

-- const_assert a >= 2u;
condition_is : expr_shape (codes "a" ∷ []) assert_condition ≡ infixed (first_line 13) (named (first_line 13) (codes "a")) between.GreaterEqual (first_line 15) (number (first_line 18) 2 suffix.Unsigned)
condition_is =
    expr_is (codes "a" ∷ []) assert_condition
    ∙ shape-Infix (codes "a" ∷ []) (first_line 13) assert_left between.GreaterEqual (first_line 15) assert_right
    ∙ (λ i.
    infixed
    (first_line 13)
    ((expr_is (codes "a" ∷ []) assert_left ∙ shape-Name (codes "a" ∷ []) (first_line 13) 0) i)
    between.GreaterEqual
    (first_line 15)
    ((expr_is (codes "a" ∷ []) assert_right ∙ shape-Number (codes "a" ∷ []) (first_line 18) 2 suffix.Unsigned) i))

-- its nodes are in postorder
condition_nodes : expr_nodes assert_condition ≡ 0 ∷ (1 ∷ (2 ∷ []))
condition_nodes =
    expr_numbers assert_condition
    ∙ ap (λ ns. ns ++ 2 ∷ []) (nodes-Infix assert_left between.GreaterEqual (first_line 15) assert_right)
    ∙ (λ i. ((expr_numbers assert_left ∙ ap (λ ns. ns ++ 0 ∷ []) (nodes-Name 0)) i ++ (expr_numbers assert_right ∙ ap (λ ns. ns ++ 1 ∷ []) (nodes-Number 2 suffix.Unsigned)) i) ++ 2 ∷ [])

pub assert_counts : CountFrom 0 (tree_nodes assert_tree) 4
assert_counts = subst (λ ns. CountFrom 0 ((ns ++ 3 ∷ []) ++ []) 4) (sym condition_nodes) (refl, (refl, (refl, (refl, refl))))

alone : {e : ExprShape} {ts us : List Lexeme} → Primary e ts us → Shift e ts us
alone p = additive (multiplicative (unary (operand (primary p))))

pub assert_spelled : Spells assert_tree assert_lexemes
assert_spelled =
    subst (λ e. Module (record { directives = []; decls = assert_decl (first_line 0) e ∷ [] }) assert_lexemes []) (sym condition_is)
    (whole _ no_more (more (assertion (first_line 0) (first_line 20) (relational (greater_equal (first_line 15) (first_line 16) refl (alone (typed (plain_type (first_line 13) (codes "a")))) (alone (numeral (first_line 18) 2 suffix.Unsigned))))) no_more))

-- var<private> a: vec2<u32,>;
abbrev var_names : List (List ℕ)
var_names = codes "private" ∷ (codes "a" ∷ (codes "vec2" ∷ (codes "u32" ∷ [])))

type_is : expr_shape var_names var_type ≡ template (first_line 16) (codes "vec2") (exprs (named (first_line 21) (codes "u32")) no_exprs) true
type_is =
    expr_is var_names var_type
    ∙ shape-Template var_names (first_line 16) 2 (var_element ∷ []) true
    ∙ (λ i. template (first_line 16) (codes "vec2") (exprs ((expr_is var_names var_element ∙ shape-Name var_names (first_line 21) 3) i) no_exprs) true)

simple_expr : {e : ExprShape} {ts us : List Lexeme} → Primary e ts us → Expression e ts us
simple_expr p = relational (shifted (alone p))

abbrev var_shape_of : ExprShape → VarShape
var_shape_of ty = record { place = first_line 0; space = Some (record { space = record { place = first_line 4; text = codes "private" }; access = None; trailing = false }); name = record { place = first_line 13; text = codes "a" }; ty = Some ty; value = None }

var_read : Module (record { directives = []; decls = var_decl (first_line 0) [] (var_shape_of (template (first_line 16) (codes "vec2") (exprs (named (first_line 21) (codes "u32")) no_exprs) true)) ∷ [] }) var_lexemes []
var_read =
    whole _ no_more (
    more (
    variable [] (var_shape_of (template (first_line 16) (codes "vec2") (exprs (named (first_line 21) (codes "u32")) no_exprs) true)) (first_line 26) no_more
    (var _
    (present (var_space _ (first_line 3) (first_line 11) absent no_mark))
    (present (of_type (first_line 14) (template_type (first_line 16) (first_line 20) (first_line 25) (codes "vec2") (last_expr_comma (first_line 24) (simple_expr (typed (plain_type (first_line 21) (codes "u32"))))))))
    absent)
    )
    no_more
    )

pub var_spelled : Spells var_tree var_lexemes
var_spelled = subst (λ ty. Module (record { directives = []; decls = var_decl (first_line 0) [] (var_shape_of ty) ∷ [] }) var_lexemes []) (sym type_is) var_read

-- Statements at one place. loop { continuing { break if x; } }
pub loop_read : (p : Place) (x : List ℕ) → Statement (loop_stmt p [] p [] no_stmts (continuing_part p [] no_stmts (Some (record { break_place = p; if_place = p; condition = named p x })) p) p) (Key word.Loop p ∷ (Mark sign.OpenBrace p ∷ (Key word.Continuing p ∷ (Mark sign.OpenBrace p ∷ (Key word.Break p ∷ (Key word.If p ∷ (Word x p ∷ (Mark sign.Semicolon p ∷ (Mark sign.CloseBrace p ∷ (Mark sign.CloseBrace p ∷ [])))))))))) []
loop_read p x = is_loop [] p p p no_more no_more no_statement (continuing p p p no_more no_statement (present (breaks_if _ p (simple_expr (typed (plain_type p x))))))

empty_block : (p : Place) {ts : List Lexeme} → Block (braces p [] no_stmts p) (Mark sign.OpenBrace p ∷ (Mark sign.CloseBrace p ∷ ts)) ts
empty_block p = block [] p p no_more no_statement

-- if x { } else if y { } else { }
pub if_read : (p : Place) (x y : List ℕ) → Statement (if_stmt p [] p (named p x) (braces p [] no_stmts p) (else_if_arm p p (named p y) (braces p [] no_stmts p) (else_arm p (braces p [] no_stmts p)))) (Key word.If p ∷ (Word x p ∷ (Mark sign.OpenBrace p ∷ (Mark sign.CloseBrace p ∷ (Key word.Else p ∷ (Key word.If p ∷ (Word y p ∷ (Mark sign.OpenBrace p ∷ (Mark sign.CloseBrace p ∷ (Key word.Else p ∷ (Mark sign.OpenBrace p ∷ (Mark sign.CloseBrace p ∷ [])))))))))))) []
if_read p x y = is_if [] p no_more (simple_expr (typed (plain_type p x))) (empty_block p) (else_if p p (simple_expr (typed (plain_type p y))) (empty_block p) (otherwise p (empty_block p)))

-- switch x { case 1, default: { } }
pub switch_read : (p : Place) (x : List ℕ) → Statement (switch_stmt p [] p (named p x) [] (case_clause p (value_selector (number p 1 suffix.Plain) ∷ (default_selector p ∷ [])) false true (braces p [] no_stmts p) no_clauses) p) (Key word.Switch p ∷ (Word x p ∷ (Mark sign.OpenBrace p ∷ (Key word.Case p ∷ (Number 1 suffix.Plain p ∷ (Mark sign.Comma p ∷ (Key word.Default p ∷ (Mark sign.Colon p ∷ (Mark sign.OpenBrace p ∷ (Mark sign.CloseBrace p ∷ (Mark sign.CloseBrace p ∷ []))))))))))) []
switch_read p x = is_switch [] p p p no_more (simple_expr (typed (plain_type p x))) no_more (case p (comma p (selects_value (simple_expr (numeral p 1 suffix.Plain))) (last (selects_default p))) (some_mark p) (empty_block p) no_clause)

-- for (; ; x >>= 1) { }, where the tokens of the operator stand side by side
pub for_read : (p q r : Place) → Adjacent p q → Adjacent q r → (x : List ℕ) → Statement (for_stmt p [] p None None (Some (compound (named p x) assigns.ShiftRight p (number p 1 suffix.Plain))) (braces p [] no_stmts p)) (Key word.For p ∷ (Mark sign.Open p ∷ (Mark sign.Semicolon p ∷ (Mark sign.Semicolon p ∷ (Word x p ∷ (Mark sign.Greater p ∷ (Mark sign.Greater q ∷ (Mark sign.Equal r ∷ (Number 1 suffix.Plain p ∷ (Mark sign.Close p ∷ (Mark sign.OpenBrace p ∷ (Mark sign.CloseBrace p ∷ [])))))))))))) []
for_read p q r pq qr x = is_for [] p p p p p no_more absent absent (present (compounded p (left_singular (left_name p x)) (shift_right_assigns p q r pq qr) (simple_expr (numeral p 1 suffix.Plain)))) (empty_block p)

-- Small texts with their tokens, for trees that are built by hand.
use Rattle.std.specs.Prelude.{ℕ, ◌+◌, true, false, List, [], ◌∷◌, None, Some, codes}
use Rattle.shade_base.specs.declared.place.Place.{Place}
use Rattle.shade_lex.specs.declared.token.Suffix.TheVariants as suffix
use Rattle.shade_lex.specs.declared.token.Token.{Token}
use Rattle.shade_lex.specs.declared.token.TokenKind.{TokenKind}
use Rattle.shade_lex.specs.declared.token.TokenKind.TheVariants as kind
use Rattle.shade_ast.specs.declared.expr.Expr.{Expr}
use Rattle.shade_ast.specs.declared.expr.ExprKind.{ExprKind}
use Rattle.shade_ast.specs.declared.expr.ExprKind.TheVariants as expr
use Rattle.shade_ast.specs.declared.expr.Infix.TheVariants as between
use Rattle.shade_ast.specs.declared.expr.Named.{Named}
use Rattle.shade_ast.specs.declared.tree.DeclKind.TheVariants as decl
use Rattle.shade_ast.specs.declared.tree.Tree.{Tree}
use Rattle.shade_ast.specs.Lexemes.{Lexeme, lexemes}

-- a place in the first line
abbrev pub first_line : ℕ → Place
first_line offset = record { offset = offset; line = 1; column = offset + 1 }

abbrev pub token_at : TokenKind → ℕ → ℕ → Token
token_at k offset length = record { kind = k; place = first_line offset; length = length }

-- const_assert a >= 2u;
abbrev pub assert_lexemes : List Lexeme
assert_lexemes =
    lexemes (codes "const_assert a >= 2u;") [] (
    token_at kind.Word 0 12 ∷ (token_at kind.Word 13 1 ∷ (token_at kind.Mark 15 1 ∷ (token_at kind.Mark 16 1
    ∷ (token_at (kind.Number 2 suffix.Unsigned) 18 2 ∷ (token_at kind.Mark 20 1 ∷ [])))))
    )

abbrev pub expr_at : ℕ → ℕ → ExprKind → Expr
expr_at node offset k = record { node = node; place = first_line offset; kind = k }

abbrev pub assert_left : Expr
assert_left = expr_at 0 13 (expr.Name 0)

abbrev pub assert_right : Expr
assert_right = expr_at 1 18 (expr.Number 2 suffix.Unsigned)

abbrev pub assert_condition : Expr
assert_condition = expr_at 2 13 (expr.Infix assert_left between.GreaterEqual (first_line 15) assert_right)

abbrev pub assert_tree : Tree
assert_tree = record { directives = []; decls = record { node = 3; place = first_line 0; kind = decl.ConstAssert assert_condition } ∷ []; names = codes "a" ∷ [] }

-- var<private> a: vec2<u32,>;
abbrev pub var_lexemes : List Lexeme
var_lexemes =
    lexemes (codes "var<private> a: vec2<u32,>;") ((3, 11) ∷ ((20, 25) ∷ [])) (
    token_at kind.Word 0 3 ∷ (token_at kind.Mark 3 1 ∷ (token_at kind.Word 4 7 ∷ (token_at kind.Mark 11 1 ∷ (token_at kind.Word 13 1
    ∷ (token_at kind.Mark 14 1 ∷ (token_at kind.Word 16 4 ∷ (token_at kind.Mark 20 1 ∷ (token_at kind.Word 21 3 ∷ (token_at kind.Mark 24 1
    ∷ (token_at kind.Mark 25 1 ∷ (token_at kind.Mark 26 1 ∷ [])))))))))))
    )

abbrev pub named_at : ℕ → ℕ → ℕ → Named
named_at node offset name = record { node = node; place = first_line offset; name = name }

abbrev pub var_element : Expr
var_element = expr_at 2 21 (expr.Name 3)

abbrev pub var_type : Expr
var_type = expr_at 3 16 (expr.Template 2 (var_element ∷ []) true)

abbrev pub var_tree : Tree
var_tree = record {
  directives = [];
  decls =
      record {
        node = 4;
        place = first_line 0;
        kind =
            decl.Var [] (record {
              keyword = first_line 0;
              space = Some (record { space = named_at 0 4 0; access = None; trailing = false });
              name = named_at 1 13 1;
              ty = Some var_type;
              value = None;
            });
      }
      ∷ [];
  names = codes "private" ∷ (codes "a" ∷ (codes "vec2" ∷ (codes "u32" ∷ [])));
}

-- What a function that reads a phrase answers. A phrase is a relation of what is read, the tokens from its first one on, and
-- the tokens behind its last one.
use Rattle.std.specs.Prelude.{◌≡◌, ℕ, ◌<◌, ◌≤◌, List, [], ◌∷◌, ◌++◌, length, drop}
use Rattle.shade_ast.specs.declared.lexeme.Keyword.{Keyword}
use Rattle.shade_ast.specs.declared.lexeme.Keyword.TheVariants as word
use Rattle.shade_ast.specs.declared.lexeme.Sign.{Sign}
use Rattle.shade_ast.specs.declared.lexeme.Sign.TheVariants as sign
use Rattle.shade_ast.specs.Lexemes.{Lexeme, Word, Key, Number, Mark, Stray}

-- How tightly a token goes on with a phrase before it: 0 with a name, 1 with a type, 2 with an operand, 3 with a product, 4 with
-- a sum, 5 with a shift, 6 with a comparison, 7 with an expression, 8 with a statement or a part of one, 9 with a list of
-- statements, clauses or declarations; 10 where it goes on with nothing.
abbrev pub sign_rank : Sign → ℕ
sign_rank sign.OpenTemplate = 0
sign_rank sign.Open = 1
sign_rank sign.Dot = 2
sign_rank sign.OpenBracket = 2
sign_rank sign.Star = 3
sign_rank sign.Slash = 3
sign_rank sign.Percent = 3
sign_rank sign.Plus = 4
sign_rank sign.Minus = 4
sign_rank sign.ShiftLeft = 5
sign_rank sign.Less = 6
sign_rank sign.Greater = 6
sign_rank sign.LessEqual = 6
sign_rank sign.EqualEqual = 6
sign_rank sign.NotEqual = 6
sign_rank sign.Ampersand = 7
sign_rank sign.Bar = 7
sign_rank sign.Caret = 7
sign_rank sign.AndAnd = 7
sign_rank sign.OrOr = 7
sign_rank sign.Equal = 8
sign_rank sign.Colon = 8
sign_rank sign.Arrow = 8
sign_rank sign.At = 8
sign_rank sign.Semicolon = 9
sign_rank sign.OpenBrace = 9
sign_rank sign.Underscore = 9
sign_rank _ = 10

abbrev pub keyword_rank : Keyword → ℕ
keyword_rank word.Else = 8
keyword_rank word.Continuing = 10
keyword_rank _ = 9

abbrev pub rank_of : Lexeme → ℕ
rank_of (Word text place) = 9
rank_of (Key keyword place) = keyword_rank keyword
rank_of (Number value suffix place) = 10
rank_of (Mark found place) = sign_rank found
rank_of (Stray place) = 10

abbrev pub rank : List Lexeme → ℕ
rank [] = 10
rank (t ∷ ts) = rank_of t

-- the first list has ended, or both begin with one token
abbrev pub Near : List Lexeme → List Lexeme → Type 0
Near [] rest = Unit {0}
Near (t ∷ ys) [] = ⊥
Near (t ∷ ys) (u ∷ rest) = t ≡ u

-- The phrase between two places is spelled there, and no other is, where the token behind goes on with no phrase of this rank.
pub record Reads {R : Type 0} (G : R → List Lexeme → List Lexeme → Type 0) (n : ℕ) (tokens : List Lexeme) (from : ℕ) (r : R) (to : ℕ) : Type 0 where
  pub low : from ≤ to
  pub high : to ≤ length tokens
  pub us : List Lexeme
  pub spelled : drop from tokens ≡ us ++ drop to tokens
  pub phrase : (w : List Lexeme) → G r (us ++ w) w
  pub only : (s : R) (ys w : List Lexeme) → G s (us ++ ys) w → n < rank w → Near ys (drop to tokens) → (s ≡ r) × (ys ≡ w)

-- A phrase begins with the tokens before a place, and none goes on with the token there or has ended there.
pub record Fails {R : Type 0} (G : R → List Lexeme → List Lexeme → Type 0) (n : ℕ) (tokens : List Lexeme) (from to : ℕ) : Type 0 where
  pub low : from ≤ to
  pub high : to ≤ length tokens
  pub us : List Lexeme
  pub spelled : drop from tokens ≡ us ++ drop to tokens
  pub begun : (s : R) × (ys : List Lexeme) × ((w : List Lexeme) → G s (us ++ (ys ++ w)) w)
  pub none : (s : R) (ys w : List Lexeme) → G s (us ++ ys) w → n < rank w → Near ys (drop to tokens) → ⊥

-- A text is read piece by piece. A piece is a blank or a token; a blank is a blankspace character or a comment.
use Rattle.std.specs.Prelude.{◌≡◌, ℕ, ◌<◌, ◌≤◌, ◌⊎◌, Bool, true, false, ◌||◌, List, length, take, drop, None, Some}
use Rattle.shade_lex.specs.declared.token.TokenKind.{TokenKind}
use Rattle.shade_lex.specs.declared.piece.Piece.{Piece}
use Rattle.shade_lex.specs.declared.piece.Piece.TheVariants.{Blank, Token}
use Rattle.shade_lex.specs.declared.piece.Problem.{Problem}
use Rattle.shade_lex.specs.declared.piece.Problem.TheVariants.{BadCharacter, OpenComment}
use Rattle.shade_lex.specs.Characters.{is_blankspace, starts, starts_with_two}
use Rattle.shade_lex.specs.Lexemes.{is_lexeme, kind_of, problem_of}
use Rattle.shade_lex.specs.Comments.{IsLineComment, IsBlockComment}

-- The longest front of a text that passes a test has so many characters, 0 where no front passes it.
pub record IsLongest (p : List ℕ → Bool) (text : List ℕ) (count : ℕ) : Type 0 where
  pub within : count ≤ length text
  pub passes : 0 < count → p (take count text) ≡ true
  pub none : (more : ℕ) → count < more → more ≤ length text → p (take more text) ≡ false

-- a blank alone can begin at a blankspace character, and at `/` before `/` or `*`
abbrev pub is_for_blank : List ℕ → Bool
is_for_blank text = starts is_blankspace text || (starts_with_two 47 47 text || starts_with_two 47 42 text)

abbrev pub IsBlank : List ℕ → ℕ → Type 0
IsBlank text count = ((starts is_blankspace text ≡ true) × (count ≡ 1)) ⊎ (IsLineComment text count ⊎ IsBlockComment text count)

-- the longest lexeme at a place, which is not for a blank
pub record IsLongestLexeme (text : List ℕ) (count : ℕ) : Type 0 where
  pub not_for_blank : is_for_blank text ≡ false
  pub longest : IsLongest is_lexeme text count

-- a token has the kind that its characters say, and nothing is wrong with it
pub record IsToken (text : List ℕ) (kind : TokenKind) (count : ℕ) : Type 0 where
  pub lexeme : IsLongestLexeme text count
  pub some : 0 < count
  pub sound : problem_of (take count text) (drop count text) ≡ None
  pub kind_is : kind ≡ kind_of (take count text)

-- something is wrong with the longest lexeme
pub record IsWrong (text : List ℕ) (problem : Problem) : Type 0 where
  pub count : ℕ
  pub lexeme : IsLongestLexeme text count
  pub some : 0 < count
  pub wrong : problem_of (take count text) (drop count text) ≡ Some problem

abbrev pub IsPiece : List ℕ → Piece → Type 0
IsPiece text (Blank count) = IsBlank text count
IsPiece text (Token kind count) = IsToken text kind count

-- Why neither a blank nor a token begins at a place: a block comment is open, no lexeme begins, or something is wrong with the longest.
abbrev pub IsProblem : List ℕ → Problem → Type 0
IsProblem text OpenComment = (starts_with_two 47 42 text ≡ true) × ((count : ℕ) → IsBlockComment text count → ⊥)
IsProblem text BadCharacter = IsLongestLexeme text 0 ⊎ IsWrong text BadCharacter
IsProblem text problem = IsWrong text problem

-- how many characters a piece has
abbrev pub piece_count : Piece → ℕ
piece_count (Blank count) = count
piece_count (Token kind count) = count

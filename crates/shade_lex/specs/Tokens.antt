-- The tokens of a text: blanks and tokens spell it from its first character to its last.
use Rattle.std.specs.Prelude.{◌≡◌, ℕ, ◌+◌, ◌-◌, ◌<◌, ◌≤◌, List, [], ◌∷◌, ◌++◌, length, take, drop, chars, encode_utf8_all}
use Rattle.std.specs.Str.{IsCharBoundary}
use Rattle.shade_base.specs.declared.place.Place.{Place}
use Rattle.shade_base.specs.Lines.{place_of}
use Rattle.shade_lex.specs.declared.token.Token.{Token}
use Rattle.shade_lex.specs.declared.fault.LexFault.{LexFault}
use Rattle.shade_lex.specs.declared.fault.LexFault.TheVariants as fault
use Rattle.shade_lex.specs.declared.piece.Piece.{Piece}
use Rattle.shade_lex.specs.declared.piece.Piece.TheVariants as piece
use Rattle.shade_lex.specs.declared.piece.Problem.{Problem}
use Rattle.shade_lex.specs.declared.piece.Problem.TheVariants as problem
use Rattle.shade_lex.specs.Pieces.{IsPiece, IsProblem, piece_count}

-- a text and its tokens in order
pub record LexedText : Type 0 where
  pub text : List ℕ
  pub tokens : List Token

-- pieces spell a text up to a rest of it
abbrev pub SpellsTo : List ℕ → List Piece → List ℕ → Type 0
SpellsTo text [] rest = text ≡ rest
SpellsTo text (p ∷ pieces) rest = IsPiece text p × SpellsTo (drop (piece_count p) text) pieces rest

-- how many bytes characters have
abbrev pub width : List ℕ → ℕ
width cs = length (encode_utf8_all cs)

-- a blank gives no token
abbrev pub token_of : Piece → Place → ℕ → List Token
token_of (piece.Blank count) place bytes = []
token_of (piece.Token kind count) place bytes = record { kind = kind; place = place; length = bytes } ∷ []

-- the tokens among pieces of a text, from an offset on, where these characters are left
abbrev pub tokens_from : List ℕ → ℕ → List ℕ → List Piece → List Token
tokens_from text offset cs [] = []
tokens_from text offset cs (p ∷ pieces) =
    token_of p (place_of text offset) (width (take (piece_count p) cs)) ++ tokens_from text (offset + width (take (piece_count p) cs)) (drop (piece_count p) cs) pieces

-- a place in a text
abbrev pub IsPlace : List ℕ → Place → Type 0
IsPlace text place = place ≡ place_of text place.offset

-- The tokens of a text, which is given by its bytes.
pub record AreTokens (text : List ℕ) (tokens : List Token) : Type 0 where
  pub pieces : List Piece
  pub spell : SpellsTo (chars text) pieces []
  pub are : tokens ≡ tokens_from text 0 (chars text) pieces

-- a text that is short enough, and its tokens
pub record IsLexed (text : List ℕ) (tokens : List Token) : Type 0 where
  pub small : length text ≤ 1048576
  pub tokens_are : AreTokens text tokens

-- A token begins and ends between characters.
pub record IsWithin (text : List ℕ) (token : Token) : Type 0 where
  pub begins : IsCharBoundary text token.place.offset
  pub ends : IsCharBoundary text (token.place.offset + token.length)

-- The problem at the first place of a text where neither a blank nor a token begins.
pub record IsProblemOf (text : List ℕ) (place : Place) (p : Problem) : Type 0 where
  pub pieces : List Piece
  pub rest : List ℕ
  pub spell : SpellsTo (chars text) pieces rest
  pub left : 0 < length rest
  pub wrong : IsProblem rest p
  pub at : place ≡ place_of text (length text - width rest)

-- what a fault says of a text; want of memory says nothing
abbrev pub fault_at : Problem → Place → LexFault
fault_at problem.BadCharacter place = fault.BadCharacter place
fault_at problem.OpenComment place = fault.OpenComment place
fault_at problem.BadNumber place = fault.BadNumber place
fault_at problem.NumberTooLarge place = fault.NumberTooLarge place
fault_at problem.FloatLiteral place = fault.FloatLiteral place

abbrev pub IsFaultOf : List ℕ → LexFault → Type 0
IsFaultOf text (fault.BadCharacter place) = IsProblemOf text place problem.BadCharacter
IsFaultOf text (fault.OpenComment place) = IsProblemOf text place problem.OpenComment
IsFaultOf text (fault.BadNumber place) = IsProblemOf text place problem.BadNumber
IsFaultOf text (fault.NumberTooLarge place) = IsProblemOf text place problem.NumberTooLarge
IsFaultOf text (fault.FloatLiteral place) = IsProblemOf text place problem.FloatLiteral
IsFaultOf text fault.NoMemory = Unit {0}

-- A text has at most one list of tokens; it has none where it has a problem, and at most one problem, at one place.
pub record IsReadOnce (text : List ℕ) : Type 0 where
  pub one_list : (tokens others : List Token) → AreTokens text tokens → AreTokens text others → tokens ≡ others
  pub one_problem : (place other : Place) (p q : Problem) → IsProblemOf text place p → IsProblemOf text other q → (place ≡ other) × (p ≡ q)
  pub not_both : (tokens : List Token) (place : Place) (p : Problem) → AreTokens text tokens → IsProblemOf text place p → ⊥

-- What the grammar reads: names, keywords, numbers and marks, each with its place. A `<` or a `>` of a template list is a mark
-- of its own (WGSL, "Template Lists"), one outside is an operator.
use Rattle.std.specs.Prelude.{◌≡◌, ℕ, ◌+◌, ◌==◌, List, [], ◌∷◌, map, Option, None, Some, codes, slice_range, if◌then◌else◌}
use Rattle.std.specs.List.{list_any}
use Rattle.std.specs.Str.{bytes_eq}
use Rattle.shade_base.specs.declared.place.Place.{Place}
use Rattle.shade_lex.specs.declared.token.Suffix.{Suffix}
use Rattle.shade_lex.specs.declared.token.Token.{Token}
use Rattle.shade_lex.specs.declared.token.TokenKind.{TokenKind}
use Rattle.shade_lex.specs.declared.token.TokenKind.TheVariants as kind
use Rattle.shade_ast.specs.declared.lexeme.Keyword.{Keyword}
use Rattle.shade_ast.specs.declared.lexeme.Keyword.TheVariants as word
use Rattle.shade_ast.specs.declared.lexeme.Sign.{Sign}
use Rattle.shade_ast.specs.declared.lexeme.Sign.TheVariants as sign

pub data Lexeme : Type 0 where
  Word : (text : List ℕ) (place : Place) → Lexeme
  Key : (keyword : Keyword) (place : Place) → Lexeme
  Number : (value : ℕ) (suffix : Suffix) (place : Place) → Lexeme
  Mark : (sign : Sign) (place : Place) → Lexeme
  -- what no text has
  Stray : (place : Place) → Lexeme

-- the keywords (WGSL, "Keywords"), each with its text
abbrev pub keywords : List (List ℕ × Keyword)
keywords =
    (codes "alias", word.Alias) ∷ ((codes "break", word.Break) ∷ ((codes "case", word.Case) ∷ ((codes "const", word.Const)
    ∷ ((codes "const_assert", word.ConstAssert) ∷ ((codes "continue", word.Continue) ∷ ((codes "continuing", word.Continuing)
    ∷ ((codes "default", word.Default) ∷ ((codes "diagnostic", word.Diagnostic) ∷ ((codes "discard", word.Discard)
    ∷ ((codes "else", word.Else) ∷ ((codes "enable", word.Enable) ∷ ((codes "false", word.False) ∷ ((codes "fn", word.Fn)
    ∷ ((codes "for", word.For) ∷ ((codes "if", word.If) ∷ ((codes "let", word.Let) ∷ ((codes "loop", word.Loop)
    ∷ ((codes "override", word.Override) ∷ ((codes "requires", word.Requires) ∷ ((codes "return", word.Return)
    ∷ ((codes "struct", word.Struct) ∷ ((codes "switch", word.Switch) ∷ ((codes "true", word.True) ∷ ((codes "var", word.Var)
    ∷ ((codes "while", word.While) ∷ [])))))))))))))))))))))))))

-- the marks outside template lists (WGSL, "Syntactic Tokens"), each with its text
abbrev pub signs : List (List ℕ × Sign)
signs =
    (codes "(", sign.Open) ∷ ((codes ")", sign.Close) ∷ ((codes "[", sign.OpenBracket) ∷ ((codes "]", sign.CloseBracket)
    ∷ ((codes "{", sign.OpenBrace) ∷ ((codes "}", sign.CloseBrace) ∷ ((codes "<", sign.Less) ∷ ((codes ">", sign.Greater)
    ∷ ((codes "<=", sign.LessEqual) ∷ ((codes "==", sign.EqualEqual) ∷ ((codes "!=", sign.NotEqual) ∷ ((codes "<<", sign.ShiftLeft)
    ∷ ((codes "+", sign.Plus) ∷ ((codes "-", sign.Minus) ∷ ((codes "*", sign.Star) ∷ ((codes "/", sign.Slash)
    ∷ ((codes "%", sign.Percent) ∷ ((codes "&", sign.Ampersand) ∷ ((codes "|", sign.Bar) ∷ ((codes "^", sign.Caret)
    ∷ ((codes "&&", sign.AndAnd) ∷ ((codes "||", sign.OrOr) ∷ ((codes "!", sign.Bang) ∷ ((codes "~", sign.Tilde)
    ∷ ((codes "++", sign.PlusPlus) ∷ ((codes "--", sign.MinusMinus) ∷ ((codes "=", sign.Equal) ∷ ((codes "+=", sign.PlusEqual)
    ∷ ((codes "-=", sign.MinusEqual) ∷ ((codes "*=", sign.StarEqual) ∷ ((codes "/=", sign.SlashEqual) ∷ ((codes "%=", sign.PercentEqual)
    ∷ ((codes "&=", sign.AmpersandEqual) ∷ ((codes "|=", sign.BarEqual) ∷ ((codes "^=", sign.CaretEqual) ∷ ((codes "<<=", sign.ShiftLeftEqual)
    ∷ ((codes "->", sign.Arrow) ∷ ((codes ".", sign.Dot) ∷ ((codes ",", sign.Comma) ∷ ((codes ";", sign.Semicolon)
    ∷ ((codes ":", sign.Colon) ∷ ((codes "@", sign.At) ∷ ((codes "_", sign.Underscore) ∷ []))))))))))))))))))))))))))))))))))))))))))

-- what stands beside a text
abbrev pub named_in : {A : Type 0} → List (List ℕ × A) → List ℕ → Option A
named_in [] text = None
named_in (entry ∷ entries) text = if bytes_eq text entry.0 then Some entry.1 else named_in entries text

-- the mark that a `<` or a `>` is, by the template lists, which are given by the offsets of their ends
abbrev pub in_template : Sign → List (ℕ × ℕ) → ℕ → Sign
in_template sign.Less pairs offset = if list_any (λ pair. pair.0 == offset) pairs then sign.OpenTemplate else sign.Less
in_template sign.Greater pairs offset = if list_any (λ pair. pair.1 == offset) pairs then sign.CloseTemplate else sign.Greater
in_template other pairs offset = other

abbrev pub word_lexeme : Option Keyword → List ℕ → Place → Lexeme
word_lexeme None text place = Word text place
word_lexeme (Some keyword) text place = Key keyword place

abbrev pub mark_lexeme : Option Sign → List (ℕ × ℕ) → Place → Lexeme
mark_lexeme None pairs place = Stray place
mark_lexeme (Some found) pairs place = Mark (in_template found pairs place.offset) place

abbrev pub kind_lexeme : TokenKind → List ℕ → List (ℕ × ℕ) → Place → Lexeme
kind_lexeme kind.Word text pairs place = word_lexeme (named_in keywords text) text place
kind_lexeme (kind.Number value suffix) text pairs place = Number value suffix place
kind_lexeme kind.Mark text pairs place = mark_lexeme (named_in signs text) pairs place

-- what a token of a text is
abbrev pub lexeme_of : List ℕ → List (ℕ × ℕ) → Token → Lexeme
lexeme_of text pairs token = kind_lexeme token.kind (slice_range text token.place.offset (token.place.offset + token.length)) pairs token.place

abbrev pub lexemes : List ℕ → List (ℕ × ℕ) → List Token → List Lexeme
lexemes text pairs tokens = map (lexeme_of text pairs) tokens

-- The second token follows directly on the first, which is one byte long: so `>=`, `>>` and `>>=` are spelled.
abbrev pub Adjacent : Place → Place → Type 0
Adjacent first second = second.offset ≡ first.offset + 1

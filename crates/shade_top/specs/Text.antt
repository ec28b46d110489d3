-- What a text must pass before its form is asked for, and why it is refused.
use Rattle.std.specs.Prelude.{ℕ, ◌<◌, ◌≤◌, List, length}
use Rattle.std.specs.Str.{IsUtf8, IsValidUpTo}
use Rattle.shade_lex.specs.declared.token.Token.{Token}
use Rattle.shade_lex.specs.Tokens.{AreTokens, IsProblemOf}
use Rattle.shade_lex.specs.Templates.{AreTemplates}
use Rattle.shade_ast.specs.declared.tree.Tree.{Tree}
use Rattle.shade_ast.specs.Lexemes.{Lexeme, lexemes}
use Rattle.shade_cursor.specs.TokenPlaces.{IsPlaceOf}
use Rattle.shade_parse.specs.Answers.{IsTree, IsUnexpected, IsTooDeep}
use Rattle.shade_core.specs.declared.module.CoreModule.{CoreModule}
use Rattle.shade_first.specs.FirstForm.{LeavesAt, StandsFor}
use Rattle.shade_report.specs.declared.refusal.Refusal.{Refusal}
use Rattle.shade_report.specs.declared.refusal.Refusal.TheVariants.{TooLong, Utf8, Lex, Unexpected, TooDeep, NotYet}

-- few enough bytes, which are UTF-8
pub record IsText (bytes : List ℕ) : Type 0 where
  pub small : length bytes ≤ 1048576
  pub utf8 : IsUtf8 bytes

-- The text has tokens, and something holds of them and of what the grammar reads in them by their template lists.
pub record HasTokens (bytes : List ℕ) (Holds : List Token → List Lexeme → Type 0) : Type 0 where
  pub text : IsText bytes
  pub tokens : List Token
  pub are : AreTokens bytes tokens
  pub pairs : List (ℕ × ℕ)
  pub lists : AreTemplates bytes tokens pairs
  pub holds : Holds tokens (lexemes bytes pairs tokens)

-- The tokens of the text spell a tree, and none of them passes a depth.
abbrev pub Parses : List ℕ → Type 0
Parses bytes = HasTokens bytes (λ tokens read. (tree : Tree) × IsTree read tree)

-- The text passes every layer, and this is the module that it stands for.
pub record IsModuleOf (bytes : List ℕ) (shader : CoreModule) : Type 0 where
  pub parses : Parses bytes
  pub stands : StandsFor bytes shader

-- A text is refused for the first of these that it does not pass: its length; UTF-8, at the end of its longest beginning that is
-- UTF-8; its tokens; its syntax; and the first form.
abbrev pub IsRefused : List ℕ → Refusal → Type 0
IsRefused bytes TooLong = 1048576 < length bytes
IsRefused bytes (Utf8 offset) = (length bytes ≤ 1048576) × IsValidUpTo bytes offset
IsRefused bytes (Lex what place) = IsText bytes × IsProblemOf bytes place what
IsRefused bytes (Unexpected place) = HasTokens bytes (λ tokens read. IsPlaceOf bytes tokens (IsUnexpected read) place)
IsRefused bytes (TooDeep place) = HasTokens bytes (λ tokens read. IsPlaceOf bytes tokens (IsTooDeep read) place)
IsRefused bytes (NotYet offset) = Parses bytes × LeavesAt bytes offset

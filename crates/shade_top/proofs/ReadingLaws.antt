-- What is made of a text, layer by layer.
use Rattle.std.proofs.Common.{◌≡◌, sym, subst, ℕ, List, Option}
use Rattle.std.specs.Prelude.{IfOk, IsErr, MatchOption, Result, Ok, Err}
use Rattle.shade_lex.specs.declared.token.Token.{Token}
use Rattle.shade_lex.specs.declared.fault.LexFault.{LexFault}
use Rattle.shade_lex.specs.declared.fault.LexFault.TheVariants as lex_fault
use Rattle.shade_lex.specs.Tokens.{AreTokens, IsFaultOf}
use Rattle.shade_lex.specs.Templates.{AreTemplates}
use Rattle.shade_ast.specs.declared.tree.Tree.{Tree}
use Rattle.shade_ast.specs.Lexemes.{lexemes}
use Rattle.shade_cursor.specs.declared.fault.SyntaxFault.{SyntaxFault}
use Rattle.shade_cursor.specs.declared.fault.SyntaxFault.TheVariants as syntax_fault
use Rattle.shade_parse.specs.Answers.{IsTree, IsFault}
use Rattle.shade_report.specs.declared.refusal.Refusal.{Refusal}
use Rattle.shade_top.specs.Report.{IsReadingOf, lex_refusal, syntax_refusal}
use Rattle.shade_top.specs.Text.{IsText, IsRefused, Parses}
use Rattle.shade_top.specs.declared.text.Reading.{Reading}
use Rattle.shade_top.specs.declared.text.Reading.TheVariants as reading

-- a refusal, or the want of memory that took its place, as a result
abbrev GivesRefusal : {E : Type 0} → Option Refusal → Result Reading E → Type 0
GivesRefusal refusal result = MatchOption refusal (IsErr result) (λ why. result ≡ Ok (reading.Refused why))

none_reads : {E : Type 0} (bytes : List ℕ) (result : Result Reading E) → IsErr result → IfOk result (IsReadingOf bytes)
none_reads bytes (Ok reading) is = absurd (cc)
none_reads bytes (Err e) is = tt

module _ {E : Type 0} (bytes : List ℕ) (result : Result Reading E) where
  by_none : IsErr result → IfOk result (IsReadingOf bytes)
  by_none = none_reads bytes result

  by_some : (why : Refusal) → IsRefused bytes why → result ≡ Ok (reading.Refused why) → IfOk result (IsReadingOf bytes)
  by_some why refused is = subst (λ (r : Result Reading E). IfOk r (IsReadingOf bytes)) (sym is) refused

  -- of a text without tokens
  lex_by : (fault : LexFault) → IsText bytes → IsFaultOf bytes fault → GivesRefusal (lex_refusal fault) result → IfOk result (IsReadingOf bytes)
  lex_by (lex_fault.BadCharacter place) text f is = by_some _ (text, f) is
  lex_by (lex_fault.OpenComment place) text f is = by_some _ (text, f) is
  lex_by (lex_fault.BadNumber place) text f is = by_some _ (text, f) is
  lex_by (lex_fault.NumberTooLarge place) text f is = by_some _ (text, f) is
  lex_by (lex_fault.FloatLiteral place) text f is = by_some _ (text, f) is
  lex_by lex_fault.NoMemory text f is = by_none is

  pub lex_reading : (fault : LexFault) (refusal : Option Refusal) → refusal ≡ lex_refusal fault → IsText bytes → IsFaultOf bytes fault → GivesRefusal refusal result → IfOk result (IsReadingOf bytes)
  lex_reading fault refusal is text f gives = lex_by fault text f (subst (λ (r : Option Refusal). GivesRefusal r result) is gives)

  module _ (tokens : List Token) (pairs : List (ℕ × ℕ)) (text : IsText bytes) (are : AreTokens bytes tokens) (lists : AreTemplates bytes tokens pairs) where
    -- of tokens that spell no tree
    syntax_by : (fault : SyntaxFault) → IsFault bytes tokens (lexemes bytes pairs tokens) fault → GivesRefusal (syntax_refusal fault) result → IfOk result (IsReadingOf bytes)
    syntax_by (syntax_fault.Unexpected place) f is = by_some _ (record { text = text; tokens = tokens; are = are; pairs = pairs; lists = lists; holds = f }) is
    syntax_by (syntax_fault.TooDeep place) f is = by_some _ (record { text = text; tokens = tokens; are = are; pairs = pairs; lists = lists; holds = f }) is
    syntax_by syntax_fault.NoMemory f is = by_none is

    pub syntax_reading : (fault : SyntaxFault) (refusal : Option Refusal) → refusal ≡ syntax_refusal fault → IsFault bytes tokens (lexemes bytes pairs tokens) fault → GivesRefusal refusal result → IfOk result (IsReadingOf bytes)
    syntax_reading fault refusal is f gives = syntax_by fault f (subst (λ (r : Option Refusal). GivesRefusal r result) is gives)

-- tokens that spell a tree
pub parsed_is : (bytes : List ℕ) (tokens : List Token) (pairs : List (ℕ × ℕ)) → IsText bytes → AreTokens bytes tokens → AreTemplates bytes tokens pairs → (tree : Tree) → IsTree (lexemes bytes pairs tokens) tree → Parses bytes
parsed_is bytes tokens pairs text are lists tree is = record { text = text; tokens = tokens; are = are; pairs = pairs; lists = lists; holds = (tree, is) }

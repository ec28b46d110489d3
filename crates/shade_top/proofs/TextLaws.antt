-- Why a text is refused is one.
use Rattle.std.proofs.Common.{◌≡◌, refl, sym, ap, ap₂, subst, ℕ, ◌<◌, ◌≤◌, ◌∙◌, List, length, arith}
use Rattle.std.specs.Str.{IsUtf8, IsValidUpTo}
use Rattle.std.proofs.lemmas.List.{take_all}
use Rattle.std.proofs.lemmas.Str.{utf8_valid_len-IsValidUpTo}
use Rattle.shade_base.specs.declared.place.Place.{Place}
use Rattle.shade_lex.specs.declared.token.Token.{Token}
use Rattle.shade_lex.specs.declared.piece.Problem.{Problem}
use Rattle.shade_lex.specs.Tokens.{IsProblemOf, IsReadOnce}
use Rattle.shade_lex.specs.Templates.{AreTemplates, HaveOneReading}
use Rattle.shade_ast.specs.Lexemes.{Lexeme, lexemes}
use Rattle.shade_cursor.specs.TokenPlaces.{IsPlaceOf, place_at}
use Rattle.shade_ast.specs.declared.tree.Tree.{Tree}
use Rattle.shade_parse.specs.Answers.{IsTree, IsUnexpected, IsTooDeep}
use Rattle.shade_parse.specs.Once.{IsParsedOnce}
use Rattle.shade_core.specs.declared.module.CoreModule.{CoreModule}
use Rattle.shade_first.specs.FirstForm.{StandsFor}
use Rattle.shade_first.specs.Laws.{OnePlace, NeverBoth}
use Rattle.shade_report.specs.declared.refusal.Refusal.{Refusal}
use Rattle.shade_report.specs.declared.refusal.Refusal.TheVariants.{TooLong, Utf8, Lex, Unexpected, TooDeep, NotYet}
use Rattle.shade_top.specs.Text.{HasTokens, Parses, IsRefused}

-- bytes that are UTF-8 have no fault
no_fault : (bytes : List ℕ) (offset : ℕ) → IsUtf8 bytes → IsValidUpTo bytes offset → ⊥
no_fault bytes offset utf8 v = v.longest (length bytes) v.short (subst IsUtf8 (sym (take_all (length bytes) bytes (omega arith))) utf8)

too_long : (bytes : List ℕ) → 1048576 < length bytes → length bytes ≤ 1048576 → ⊥
too_long bytes more less = omega (arith, more, less)

-- the same places of the tokens of a text
one_place_of : (text : List ℕ) (tokens : List Token) (P : ℕ → Type 0) → ((a b : ℕ) → P a → P b → a ≡ b) → (p q : Place) → IsPlaceOf text tokens P p → IsPlaceOf text tokens P q → p ≡ q
one_place_of text tokens P one p q x y = x.stands ∙ ap (place_at text tokens) (one x.token y.token x.fact y.fact) ∙ sym y.stands

module _ (reads : (text : List ℕ) → IsReadOnce text) (lists : (text : List ℕ) (tokens : List Token) → HaveOneReading text tokens) (trees : (tokens : List Lexeme) → IsParsedOnce tokens) (bytes : List ℕ) where
  -- what holds of the tokens of a text holds of those that are known
  moved : {P Q : List Token → List Lexeme → Type 0} → HasTokens bytes P → (known : HasTokens bytes Q) → P known.tokens (lexemes bytes known.pairs known.tokens)
  moved {P = P} x known =
      let same : x.tokens ≡ known.tokens = (reads bytes).one_list x.tokens known.tokens x.are known.are in
      let pairs : x.pairs ≡ known.pairs = lists bytes known.tokens x.pairs known.pairs (subst (λ (ts : List Token). AreTemplates bytes ts x.pairs) same x.lists) known.lists in
      subst (λ (ps : List (ℕ × ℕ)). P known.tokens (lexemes bytes ps known.tokens)) pairs (subst (λ (ts : List Token). P ts (lexemes bytes x.pairs ts)) same x.holds)

  no_problem : {P : List Token → List Lexeme → Type 0} (place : Place) (problem : Problem) → HasTokens bytes P → IsProblemOf bytes place problem → ⊥
  no_problem place problem x p = (reads bytes).not_both x.tokens place problem x.are p

  one_unexpected : (p q : Place) → IsRefused bytes (Unexpected p) → IsRefused bytes (Unexpected q) → p ≡ q
  one_unexpected p q x y =
      let read : List Lexeme = lexemes bytes y.pairs y.tokens in
      one_place_of bytes y.tokens (IsUnexpected read) (trees read).one_unexpected p q (moved x y) y.holds

  one_too_deep : (p q : Place) → IsRefused bytes (TooDeep p) → IsRefused bytes (TooDeep q) → p ≡ q
  one_too_deep p q x y =
      let read : List Lexeme = lexemes bytes y.pairs y.tokens in
      one_place_of bytes y.tokens (IsTooDeep read) (trees read).one_too_deep p q (moved x y) y.holds

  never_two : (p q : Place) → IsRefused bytes (Unexpected p) → IsRefused bytes (TooDeep q) → ⊥
  never_two p q x y =
      let read : List Lexeme = lexemes bytes y.pairs y.tokens in
      let at : IsPlaceOf bytes y.tokens (IsUnexpected read) p = moved x y in
      (trees read).unexpected_or_too_deep at.token y.holds.token at.fact y.holds.fact

  not_unexpected : (p : Place) → Parses bytes → IsRefused bytes (Unexpected p) → ⊥
  not_unexpected p x y = let read : List Lexeme = lexemes bytes y.pairs y.tokens in let t : (tree : Tree) × IsTree read tree = moved x y in (trees read).tree_or_unexpected t.0 y.holds.token t.1 y.holds.fact

  not_too_deep : (p : Place) → Parses bytes → IsRefused bytes (TooDeep p) → ⊥
  not_too_deep p x y = let read : List Lexeme = lexemes bytes y.pairs y.tokens in let t : (tree : Tree) × IsTree read tree = moved x y in (trees read).tree_or_too_deep t.0 y.holds.token t.1 y.holds.fact

  -- a text whose tokens spell a tree is refused for its form alone
  parsed : (why : Refusal) → Parses bytes → IsRefused bytes why → (offset : ℕ) × (why ≡ NotYet offset)
  parsed TooLong x r = absurd (too_long bytes r x.text.small)
  parsed (Utf8 offset) x r = absurd (no_fault bytes offset x.text.utf8 r.1)
  parsed (Lex problem place) x r = absurd (no_problem place problem x r.1)
  parsed (Unexpected place) x r = absurd (not_unexpected place x r)
  parsed (TooDeep place) x r = absurd (not_too_deep place x r)
  parsed (NotYet offset) x r = (offset, refl)

  -- a text that is refused for its form is refused for nothing else
  one_form : OnePlace → (offset : ℕ) (why : Refusal) → IsRefused bytes (NotYet offset) → IsRefused bytes why → NotYet offset ≡ why
  one_form places offset why x r =
      let other : (at : ℕ) × (why ≡ NotYet at) = parsed why x.0 r in
      let at : IsRefused bytes (NotYet other.0) = subst (IsRefused bytes) other.1 r in
      ap NotYet (places bytes offset other.0 x.1 at.1) ∙ sym other.1

  -- a text that is read to its form is not refused before
  pub never_refused : NeverBoth → (shader : CoreModule) (why : Refusal) → StandsFor bytes shader → Parses bytes → IsRefused bytes why → ⊥
  never_refused both shader why stands x r =
      let other : (at : ℕ) × (why ≡ NotYet at) = parsed why x r in
      let at : IsRefused bytes (NotYet other.0) = subst (IsRefused bytes) other.1 r in
      both bytes shader other.0 stands at.1

  pub one_refusal : OnePlace → (one other : Refusal) → IsRefused bytes one → IsRefused bytes other → one ≡ other
  one_refusal places TooLong TooLong x y = refl
  one_refusal places TooLong (Utf8 o) x y = absurd (too_long bytes x y.0)
  one_refusal places TooLong (Lex p o) x y = absurd (too_long bytes x y.0.small)
  one_refusal places TooLong (Unexpected o) x y = absurd (too_long bytes x y.text.small)
  one_refusal places TooLong (TooDeep o) x y = absurd (too_long bytes x y.text.small)
  one_refusal places (Utf8 o) TooLong x y = absurd (too_long bytes y x.0)
  one_refusal places (Utf8 o) (Utf8 q) x y = ap Utf8 (sym (utf8_valid_len-IsValidUpTo bytes o x.1) ∙ utf8_valid_len-IsValidUpTo bytes q y.1)
  one_refusal places (Utf8 o) (Lex p q) x y = absurd (no_fault bytes o y.0.utf8 x.1)
  one_refusal places (Utf8 o) (Unexpected q) x y = absurd (no_fault bytes o y.text.utf8 x.1)
  one_refusal places (Utf8 o) (TooDeep q) x y = absurd (no_fault bytes o y.text.utf8 x.1)
  one_refusal places (Lex p o) TooLong x y = absurd (too_long bytes y x.0.small)
  one_refusal places (Lex p o) (Utf8 q) x y = absurd (no_fault bytes q x.0.utf8 y.1)
  one_refusal places (Lex p o) (Lex r q) x y = let same : (o ≡ q) × (p ≡ r) = (reads bytes).one_problem o q p r x.1 y.1 in ap₂ Lex same.1 same.0
  one_refusal places (Lex p o) (Unexpected q) x y = absurd (no_problem o p y x.1)
  one_refusal places (Lex p o) (TooDeep q) x y = absurd (no_problem o p y x.1)
  one_refusal places (Unexpected o) TooLong x y = absurd (too_long bytes y x.text.small)
  one_refusal places (Unexpected o) (Utf8 q) x y = absurd (no_fault bytes q x.text.utf8 y.1)
  one_refusal places (Unexpected o) (Lex p q) x y = absurd (no_problem q p x y.1)
  one_refusal places (Unexpected o) (Unexpected q) x y = ap Unexpected (one_unexpected o q x y)
  one_refusal places (Unexpected o) (TooDeep q) x y = absurd (never_two o q x y)
  one_refusal places (TooDeep o) TooLong x y = absurd (too_long bytes y x.text.small)
  one_refusal places (TooDeep o) (Utf8 q) x y = absurd (no_fault bytes q x.text.utf8 y.1)
  one_refusal places (TooDeep o) (Lex p q) x y = absurd (no_problem q p x y.1)
  one_refusal places (TooDeep o) (Unexpected q) x y = absurd (never_two q o y x)
  one_refusal places (TooDeep o) (TooDeep q) x y = ap TooDeep (one_too_deep o q x y)
  one_refusal places (NotYet o) why x y = one_form places o why x y
  one_refusal places TooLong (NotYet q) x y = absurd (too_long bytes x y.0.text.small)
  one_refusal places (Utf8 o) (NotYet q) x y = sym (one_form places q (Utf8 o) y x)
  one_refusal places (Lex p o) (NotYet q) x y = sym (one_form places q (Lex p o) y x)
  one_refusal places (Unexpected o) (NotYet q) x y = sym (one_form places q (Unexpected o) y x)
  one_refusal places (TooDeep o) (NotYet q) x y = sym (one_form places q (TooDeep o) y x)

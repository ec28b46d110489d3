-- Pieces made one after the other.
use Rattle.std.proofs.Common.{◌≡◌, refl, sym, ap, ◌∙◌, ℕ, ◌+◌, ◌<◌, ◌≤◌, Bool, true, false, List, [], ◌∷◌, ◌++◌, length, map, take, drop, get_or, arith, Some, Bor, nat_eq, if◌then◌else◌}
use Rattle.std.proofs.lemmas.Bool.Decides.{Decides-eqb, same_from_decides}
use Rattle.std.proofs.lemmas.List.{drop_more, take_more, length-map}
use Rattle.std.proofs.lemmas.Slice.Eq.{bytes_eq-Decides, slice_eq-Decides}
use Rattle.std.specs.Cmp.Lexicographic.{pointwise}
use Rattle.std.specs.Str.{IsUtf8, bytes_eq}
use Rattle.shade_lex.specs.declared.token.Token.{Token}
use Rattle.shade_lex.specs.Tokens.{AreTokens}
use Rattle.shade_lex.proofs.WithinLaws.{tokens_few}
use Rattle.shade_ast.specs.Lexemes.{lexeme_of, lexemes as lexemes_of, named_in}
use Rattle.shade_cursor.specs.declared.piece.Piece.{Piece}
use Rattle.shade_cursor.specs.Shown.{lexeme, lexemes, entries}

map_push : {A B : Type 0} (f : A → B) (xs : List A) (x : A) → map f (xs ++ x ∷ []) ≡ map f xs ++ f x ∷ []
map_push f [] x = refl
map_push f (y ∷ xs) x = ap (λ ys. f y ∷ ys) (map_push f xs x)

pub piece_more : (text : List ℕ) (pairs : List (ℕ × ℕ)) (tokens : List Token) (i : ℕ) (d : Token) (pieces more : List Piece) (p : Piece) → i < length tokens → more ≡ pieces ++ p ∷ [] → lexeme p ≡ lexeme_of text pairs (get_or tokens i d) → lexemes pieces ≡ lexemes_of text pairs (take i tokens) → lexemes more ≡ lexemes_of text pairs (take (i + 1) tokens)
piece_more text pairs tokens i d pieces more p lt is one so_far =
    ap lexemes is
    ∙ map_push lexeme pieces p
    ∙ ap (λ ls. ls ++ lexeme p ∷ []) so_far
    ∙ ap (λ l. lexemes_of text pairs (take i tokens) ++ l ∷ []) one
    ∙ sym (map_push (lexeme_of text pairs) (take i tokens) (get_or tokens i d))
    ∙ ap (lexemes_of text pairs) (sym (take_more tokens i d lt))

-- a text has no more pieces than bytes
pub pieces_few : (text : List ℕ) (pairs : List (ℕ × ℕ)) (tokens : List Token) (pieces : List Piece) → lexemes pieces ≡ lexemes_of text pairs tokens → IsUtf8 text → AreTokens text tokens → length text ≤ 1048576 → length pieces ≤ 1048576
pieces_few text pairs tokens pieces are u a small = omega (arith, tokens_few text tokens u a, length-map pieces lexeme, ap length are, length-map tokens (lexeme_of text pairs))

-- what `==` says of two texts
texts_same : (r : Bool) (a b : List ℕ) → r ≡ pointwise nat_eq a b → r ≡ bytes_eq a b
texts_same r a b e = same_from_decides {P = a ≡ b} r (bytes_eq a b) (slice_eq-Decides Decides-eqb a b r e) (bytes_eq-Decides a b)

-- an entry of a table, looked at from it on
module _ {A : Type 0} (table : List (Bor (List ℕ) × A)) (text : List ℕ) (i : ℕ) (entry : Bor (List ℕ) × A) (within : i < length table) (is : entry ≡ get_or table i entry) where
  entry_tells : named_in (entries (drop i table)) text ≡ (if bytes_eq text entry.0.now then Some entry.1 else named_in (entries (drop (i + 1) table)) text)
  entry_tells =
      ap (λ xs. named_in (entries xs) text) (drop_more table i entry within)
      ∙ ap (λ e. named_in (entries (e ∷ drop (i + 1) table)) text) (sym is)

  pub entry_names : true ≡ pointwise nat_eq text entry.0.now → named_in (entries (drop i table)) text ≡ Some entry.1
  entry_names same = entry_tells ∙ ap (λ b. if b then Some entry.1 else named_in (entries (drop (i + 1) table)) text) (sym (texts_same true text entry.0.now same))

  pub entry_other : false ≡ pointwise nat_eq text entry.0.now → named_in (entries (drop i table)) text ≡ named_in (entries (drop (i + 1) table)) text
  entry_other other = entry_tells ∙ ap (λ b. if b then Some entry.1 else named_in (entries (drop (i + 1) table)) text) (sym (texts_same false text entry.0.now other))

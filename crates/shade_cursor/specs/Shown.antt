-- What the parser sees of tokens.
use Rattle.std.specs.Prelude.{◌≡◌, ◌==◌, ℕ, List, map}
use Rattle.std.specs.Borrow.{Bor}
use Rattle.std.specs.List.{list_any}
use Rattle.std.specs.Ordering.{nat_cmp}
use Rattle.std.specs.BTreeSet.{BTreeSet, contains}
use Rattle.shade_ast.specs.Lexemes.{Lexeme, Word, Key, Number, Mark, Stray}
use Rattle.shade_cursor.specs.declared.piece.Piece.{Piece}
use Rattle.shade_cursor.specs.declared.piece.Piece.TheVariants as piece

abbrev pub lexeme : Piece → Lexeme
lexeme (piece.Word text place) = Word text.now place
lexeme (piece.Key keyword place) = Key keyword place
lexeme (piece.Number value suffix place) = Number value suffix place
lexeme (piece.Mark sign place) = Mark sign place
lexeme (piece.Stray place) = Stray place

abbrev pub lexemes : List Piece → List Lexeme
lexemes pieces = map lexeme pieces

-- two sets hold the offsets at which template lists begin and end
abbrev pub AreEnds : BTreeSet ℕ → BTreeSet ℕ → List (ℕ × ℕ) → Type 0
AreEnds opens closes pairs = (q : ℕ) → (contains nat_cmp opens q ≡ list_any (λ pair. pair.0 == q) pairs) × (contains nat_cmp closes q ≡ list_any (λ pair. pair.1 == q) pairs)

-- the texts of a table, and what stands beside them
abbrev pub entries : {A : Type 0} → List (Bor (List ℕ) × A) → List (List ℕ × A)
entries table = map (λ entry. (entry.0.now, entry.1)) table

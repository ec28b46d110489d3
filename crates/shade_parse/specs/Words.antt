-- The names of a text are its words, each once, in the order in which they first appear.
use Rattle.std.specs.Prelude.{◌≡◌, ℕ, ◌<◌, List, Some, slice_get}
use Rattle.shade_base.specs.declared.place.Place.{Place}
use Rattle.shade_ast.specs.Lexemes.{Lexeme, Word}

-- a token is a word
abbrev pub IsWordAt : List Lexeme → ℕ → List ℕ → Type 0
IsWordAt tokens at text = (place : Place) × (slice_get tokens at ≡ Some (Word text place))

-- Each word is a name, and each name is a word. Before a word stands each word whose name comes before its own: so the names are in the
-- order in which they first appear, and none of them is there twice.
pub record AreWords (tokens : List Lexeme) (names : List (List ℕ)) : Type 0 where
  pub all : (at : ℕ) (text : List ℕ) → IsWordAt tokens at text → (n : ℕ) × (slice_get names n ≡ Some text)
  pub only : (n : ℕ) (text : List ℕ) → slice_get names n ≡ Some text → (at : ℕ) × IsWordAt tokens at text
  pub ordered : (m n : ℕ) (earlier later : List ℕ) → m < n → slice_get names m ≡ Some earlier → slice_get names n ≡ Some later →
      (at : ℕ) → IsWordAt tokens at later → (before : ℕ) × (before < at) × IsWordAt tokens before earlier

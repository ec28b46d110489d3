-- The table of names that is made of a text, token after token.
use Rattle.std.specs.Prelude.{ℕ, List, []}
use Rattle.std.specs.List.{fold}
use Rattle.shade_ast.specs.Lexemes.{Lexeme, Word}
use Rattle.shade_ast.specs.Names.{with_name}

-- the names once a token has been read: a word that is new comes last
abbrev pub with_word : List (List ℕ) → Lexeme → List (List ℕ)
with_word names (Word text place) = with_name names text
with_word names _ = names

abbrev pub names_of : List Lexeme → List (List ℕ)
names_of tokens = fold with_word [] tokens

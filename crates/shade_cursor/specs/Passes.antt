-- Where tokens pass a limit, which is told by what is kept of the tokens before them.
use Rattle.std.specs.Prelude.{◌≡◌, ℕ, ◌<◌, ◌≤◌, List, [], ◌∷◌, Some, slice_get, slice_range}
use Rattle.shade_ast.specs.Lexemes.{Lexeme}

-- what is kept behind some tokens
abbrev pub kept : {S : Type 0} → (Lexeme → S → S) → List Lexeme → S → S
kept behind [] s = s
kept behind (t ∷ ts) s = kept behind ts (behind t s)

-- a token passes the limit, counted from a place
pub record Passes {S : Type 0} (behind : Lexeme → S → S) (start : S) (Exceeds : Lexeme → S → Type 0) (tokens : List Lexeme) (from at : ℕ) : Type 0 where
  pub token : Lexeme
  pub stands : slice_get tokens at ≡ Some token
  pub low : from ≤ at
  pub exceeds : Exceeds token (kept behind (slice_range tokens from at) start)

-- the first one that does
pub record IsFirst (Passing : ℕ → Type 0) (at : ℕ) : Type 0 where
  pub passes : Passing at
  pub first : (k : ℕ) → k < at → Passing k → ⊥

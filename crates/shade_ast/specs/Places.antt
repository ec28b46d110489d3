-- Where tokens stop being the beginning of a phrase.
use Rattle.std.specs.Prelude.{◌≡◌, ℕ, ◌+◌, ◌<◌, ◌≤◌, List, [], ◌++◌, length, slice_range}
use Rattle.shade_ast.specs.Lexemes.{Lexeme}

-- some phrase begins with these tokens
abbrev pub Begins : {R : Type 0} → (R → List Lexeme → List Lexeme → Type 0) → List Lexeme → Type 0
Begins {R} G us = (e : R) × (vs : List Lexeme) × G e (us ++ vs) []

-- the first token, from a place on, such that no phrase begins with the tokens up to it, or the end of the tokens
pub record IsStop {R : Type 0} (G : R → List Lexeme → List Lexeme → Type 0) (tokens : List Lexeme) (from stop : ℕ) : Type 0 where
  pub low : from ≤ stop
  pub high : stop ≤ length tokens
  pub before : (k : ℕ) → from ≤ k → k ≤ stop → Begins G (slice_range tokens from k)
  pub none : stop < length tokens → Begins G (slice_range tokens from (stop + 1)) → ⊥

-- the phrase that some tokens spell, and the only one
pub record IsOnly {R : Type 0} (G : R → List Lexeme → List Lexeme → Type 0) (r : R) (us : List Lexeme) : Type 0 where
  pub spells : G r us []
  pub same : (s : R) → G s us [] → s ≡ r

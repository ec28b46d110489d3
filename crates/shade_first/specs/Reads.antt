-- What a function that reads a phrase answers. A phrase is a relation of what is read, the tokens from its first one on,
-- and the tokens behind its last one.
use Rattle.std.specs.Prelude.{◌≡◌, ℕ, ◌≤◌, List, [], ◌∷◌, ◌++◌, length, drop}
use Rattle.shade_first.specs.declared.token.Token.{Token}
use Rattle.shade_first.specs.declared.phrase.SyntaxFault.{SyntaxFault}
use Rattle.shade_first.specs.declared.phrase.SyntaxFault.TheVariants.{Unexpected, NoMemory}

-- the first list has ended, or both begin with one token
abbrev pub Near : List Token → List Token → Type 0
Near [] rest = Unit {0}
Near (t ∷ ys) [] = ⊥
Near (t ∷ ys) (u ∷ rest) = t ≡ u

-- the phrase between two places is spelled there, and no other is, whatever follows
pub record Reads {R : Type 0} (G : R → List Token → List Token → Type 0) (tokens : List Token) (from : ℕ) (r : R) (to : ℕ) : Type 0 where
  pub low : from ≤ to
  pub high : to ≤ length tokens
  pub us : List Token
  pub spelled : drop from tokens ≡ us ++ drop to tokens
  pub phrase : (w : List Token) → G r (us ++ w) w
  pub only : (s : R) (ys w : List Token) → G s (us ++ ys) w → Near ys (drop to tokens) → (s ≡ r) × (ys ≡ w)

-- a phrase begins with the tokens before a place, and none goes on with the token there or has ended there
pub record Fails {R : Type 0} (G : R → List Token → List Token → Type 0) (tokens : List Token) (from to : ℕ) : Type 0 where
  pub low : from ≤ to
  pub high : to ≤ length tokens
  pub us : List Token
  pub spelled : drop from tokens ≡ us ++ drop to tokens
  pub begun : (s : R) × (ys : List Token) × ((w : List Token) → G s (us ++ (ys ++ w)) w)
  pub none : (s : R) (ys w : List Token) → G s (us ++ ys) w → Near ys (drop to tokens) → ⊥

abbrev pub Faults : {R : Type 0} → (R → List Token → List Token → Type 0) → List Token → ℕ → SyntaxFault → Type 0
Faults G tokens from (Unexpected at) = Fails G tokens from at
Faults G tokens from NoMemory = Unit {0}

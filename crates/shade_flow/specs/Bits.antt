-- Rows of bits: a word for each point, and in it one bit for each definition.
use Rattle.std.specs.Prelude.{◌≡◌, ℕ, List, slice_index_or, length}
use Rattle.std.specs.Int.{bit_at}
use Rattle.shade_reach.specs.Digraph.{HasEdge}

-- a word has a bit
abbrev pub Has : ℕ → ℕ → Type 0
Has word bit = bit_at word bit ≡ 1

-- the word of a point
abbrev pub at : List ℕ → ℕ → ℕ
at rows point = slice_index_or rows point 0

-- a definition that reaches a point: it is there at the beginning, or a point that has an edge to this one makes it, or it reaches
-- such a point, which lets it pass
pub data Arrives (Joined : ℕ → ℕ → Type 0) (Starts Makes Passes : ℕ → Type 0) : ℕ → Type 0 where
  begins : {point : ℕ} → Starts point → Arrives Joined Starts Makes Passes point
  made : {from to : ℕ} → Makes from → Joined from to → Arrives Joined Starts Makes Passes to
  goes : {from to : ℕ} → Arrives Joined Starts Makes Passes from → Passes from → Joined from to → Arrives Joined Starts Makes Passes to

-- the definition of a bit, where rows of bits tell what begins, is made and passes at each point
abbrev pub BitArrives : List (ℕ × ℕ) → List ℕ → List ℕ → List ℕ → ℕ → ℕ → Type 0
BitArrives edges starts makes passes bit = Arrives (HasEdge edges) (λ point. Has (at starts point) bit) (λ point. Has (at makes point) bit) (λ point. Has (at passes point) bit)

-- rows that hold exactly the definitions that reach
pub record AreReached (edges : List (ℕ × ℕ)) (starts makes passes rows : List ℕ) : Type 0 where
  pub long : length rows ≡ length starts
  pub sound : (bit point : ℕ) → Has (at rows point) bit → BitArrives edges starts makes passes bit point
  pub complete : (bit point : ℕ) → BitArrives edges starts makes passes bit point → Has (at rows point) bit

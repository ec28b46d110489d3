-- The words of an instance: what lanes that meet have in common of where they stand. Lanes wait at the same barrier where they came to the same
-- statement by the same calls, and in the same turns of the loops around each.
use Rattle.std.specs.Prelude.{ℕ, ◌+◌, List, ◌∷◌, length}

-- A call that is open at an instance, or the function that holds its barrier: the function, the statement that stands there, and the
-- counts of the open loops, the outermost first.
pub record Frame : Type 0 where
  pub function : ℕ
  pub statement : ℕ
  pub turns : List ℕ

-- the words of a frame, which stand in an instance after those of the frames outside of it
abbrev pub frame_words : Frame → List ℕ
frame_words f = f.function ∷ f.statement ∷ length f.turns ∷ f.turns

-- how many words a frame has with so many loops open
abbrev pub frame_length : ℕ → ℕ
frame_length loops = 3 + loops

-- Where a reading may begin, and where it went: one word for what the functions of the parsers ask and what they keep, beside the phrases themselves.
use Rattle.std.specs.Prelude.{ℕ, ◌+◌, ◌<◌, ◌≤◌, ◌^◌, List, length}
use Rattle.shade_cursor.specs.declared.piece.Piece.{Piece}

-- A place among the tokens, with the number of the next node and the names so far: 32 bits have room for a node and a name for each token that is left.
pub record CanRead (pieces : List Piece) (names : List (List ℕ)) (from node : ℕ) : Type 0 where
  pub within : from ≤ length pieces
  pub numbered : node + length pieces < 2 ^ 32 + from
  pub few : length names + length pieces < 2 ^ 32 + from

-- From one place to a later one, inside the tokens, with at most a node and a name for each token between them.
pub record Went (pieces : List Piece) (old new : List (List ℕ)) (from node end next : ℕ) : Type 0 where
  pub further : from < end
  pub within : end ≤ length pieces
  pub numbered : next + from ≤ node + end
  pub few : length new + from ≤ length old + end

-- the same where nothing may have been read
pub record WentOrStayed (pieces : List Piece) (old new : List (List ℕ)) (from node end next : ℕ) : Type 0 where
  pub further : from ≤ end
  pub within : end ≤ length pieces
  pub numbered : next + from ≤ node + end
  pub few : length new + from ≤ length old + end

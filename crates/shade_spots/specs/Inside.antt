-- Rules: spots that lie inside of their variables.
use Rattle.std.specs.Prelude.{◌+◌, ◌<◌, ◌≤◌, length}
use Rattle.shade_values.specs.Table.{Table}
use Rattle.shade_words.specs.Lays.{size}
use Rattle.shade_words.specs.Types.{lay}
use Rattle.shade_spots.specs.declared.spot.Spot.{Spot}
use Rattle.shade_spots.specs.Memory.{Memory, words_of}
use Rattle.shade_spots.specs.Spots.{Piece}

-- words of a variable of shared memory, as many as its type has
pub record IsInside (t : Table) (memory : Memory) (spot : Spot) : Type 0 where
  pub known : spot.ty.0 < length t.types
  pub root : spot.root < length memory
  pub within : spot.first + size (lay t spot.ty) ≤ length (words_of memory spot.root)

-- the piece of shared memory that a spot names
abbrev pub piece_at : Table → Spot → Piece
piece_at t spot = record { root = spot.root; first = spot.first; count = size (lay t spot.ty) }

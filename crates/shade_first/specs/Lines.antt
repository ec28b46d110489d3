-- Lines and columns of a text, over its bytes.
use Rattle.std.specs.Prelude.{ℕ, zero, suc, ◌+◌, ◌&&◌, ◌||◌, ◌==◌, Bool, false, not, nat_le, List, slice_index, if◌then◌else◌}
use Rattle.shade_base.specs.declared.place.Place.{Place}

-- Whether a line break ends right before this byte. The bytes 10 to 13 are line breaks; 13 and then 10 are one.
abbrev pub ends_break : List ℕ → ℕ → Bool
ends_break text zero = false
ends_break text (suc n) =
    (nat_le 10 (slice_index text n) && nat_le (slice_index text n) 12)
    || (slice_index text n == 13 && not (slice_index text (suc n) == 10))

-- One more line for each break that ends at or before the offset.
abbrev pub line_at : List ℕ → ℕ → ℕ
line_at text zero = 1
line_at text (suc n) = if ends_break text (suc n) then line_at text n + 1 else line_at text n

-- The bytes since the line began, from 1.
abbrev pub column_at : List ℕ → ℕ → ℕ
column_at text zero = 1
column_at text (suc n) = if ends_break text (suc n) then 1 else column_at text n + 1

abbrev pub place_of : List ℕ → ℕ → Place
place_of text offset = record { offset = offset; line = line_at text offset; column = column_at text offset }

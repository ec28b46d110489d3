-- Lines and columns of a text, over its bytes.
use Rattle.std.specs.Prelude.{ℕ, zero, suc, ◌+◌, ◌-◌, ◌&&◌, ◌||◌, ◌==◌, Bool, false, not, nat_le, List, slice_index, if◌then◌else◌}
use Rattle.shade_base.specs.declared.place.Place.{Place}

-- U+000A to U+000C
abbrev pub is_short_break : ℕ → Bool
is_short_break b = nat_le 10 b && nat_le b 12

-- U+0085 in UTF-8
abbrev pub is_next_line : ℕ → ℕ → Bool
is_next_line a b = a == 0xC2 && b == 0x85

-- U+2028 or U+2029 in UTF-8
abbrev pub is_separator : ℕ → ℕ → ℕ → Bool
is_separator a b c = a == 0xE2 && b == 0x80 && (c == 0xA8 || c == 0xA9)

-- whether a line break ends right before this byte; U+000D before U+000A ends none
abbrev pub ends_break : List ℕ → ℕ → Bool
ends_break text zero = false
ends_break text (suc n) =
    is_short_break (slice_index text n)
    || (slice_index text n == 13 && not (slice_index text (suc n) == 10))
    || is_next_line (slice_index text (n - 1)) (slice_index text n)
    || is_separator (slice_index text (n - 2)) (slice_index text (n - 1)) (slice_index text n)

-- One more line for each break that ends at or before the offset.
abbrev pub line_at : List ℕ → ℕ → ℕ
line_at text zero = 1
line_at text (suc n) = if ends_break text (suc n) then line_at text n + 1 else line_at text n

-- The bytes since the line began, from 1.
abbrev pub column_at : List ℕ → ℕ → ℕ
column_at text zero = 1
column_at text (suc n) = if ends_break text (suc n) then 1 else column_at text n + 1

abbrev pub place_of : List ℕ → ℕ → Place
place_of text offset = record { offset = offset; line = line_at text offset; column = column_at text offset }

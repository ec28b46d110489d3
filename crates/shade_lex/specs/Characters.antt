-- The characters that blanks and line breaks are made of (WGSL, "Blankspace and Line Breaks"), and how a text begins.
use Rattle.std.specs.Prelude.{ℕ, Bool, false, ◌&&◌, ◌||◌, ◌==◌, nat_le, List, [], ◌∷◌}

-- U+000A to U+000D, U+0085, U+2028 and U+2029
abbrev pub is_line_break : ℕ → Bool
is_line_break c = (nat_le 10 c && nat_le c 13) || c == 0x85 || c == 0x2028 || c == 0x2029

-- a space, a tab, a line break, or one of the marks U+200E and U+200F
abbrev pub is_blankspace : ℕ → Bool
is_blankspace c = c == 32 || c == 9 || c == 0x200E || c == 0x200F || is_line_break c

-- the first character passes a test
abbrev pub starts : (ℕ → Bool) → List ℕ → Bool
starts p [] = false
starts p (c ∷ cs) = p c

-- the first two characters are these
abbrev pub starts_with_two : ℕ → ℕ → List ℕ → Bool
starts_with_two a b [] = false
starts_with_two a b (c ∷ cs) = c == a && starts (λ d. d == b) cs

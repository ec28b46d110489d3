-- How many characters the longest word, number and mark at the front of a text have.
use Rattle.std.specs.Prelude.{ℕ, ◌+◌, Bool, false, ◌&&◌, ◌||◌, ◌==◌, List, [], ◌∷◌, drop, if◌then◌else◌}
use Rattle.std.specs.Char.{is_ascii_digit, is_ascii_hexdigit}
use Rattle.unicode_ident.specs.Ident.{is_xid_start, is_xid_continue}
use Rattle.shade_lex.specs.Characters.{starts}
use Rattle.shade_lex.specs.Lexemes.{is_suffix, is_x, is_bracket, takes_equals, is_lone_mark, is_pair}

-- the characters at the front that pass a test
abbrev pub count : (ℕ → Bool) → List ℕ → ℕ
count p [] = 0
count p (c ∷ cs) = if p c then count p cs + 1 else 0

abbrev pub word_count : List ℕ → ℕ
word_count [] = 0
word_count (c ∷ cs) = if is_xid_start c || (c == 95 && starts is_xid_continue cs) then count is_xid_continue cs + 1 else 0

abbrev pub suffix_count : List ℕ → ℕ
suffix_count cs = if starts is_suffix cs then 1 else 0

abbrev pub starts_hexadecimal : List ℕ → Bool
starts_hexadecimal (c ∷ d ∷ e ∷ cs) = c == 48 && (is_x d && is_ascii_hexdigit e)
starts_hexadecimal _ = false

-- those of a number that begins with a digit, without its suffix
abbrev pub digits_count : List ℕ → ℕ
digits_count text =
    if starts_hexadecimal text then count is_ascii_hexdigit (drop 2 text) + 2
    else (if starts (λ c. c == 48) text then 1 else count is_ascii_digit (drop 1 text) + 1)

abbrev pub number_count : List ℕ → ℕ
number_count text = if starts is_ascii_digit text then suffix_count (drop (digits_count text) text) + digits_count text else 0

abbrev pub starts_three : List ℕ → Bool
starts_three (c ∷ d ∷ e ∷ cs) = c == 60 && (d == 60 && e == 61)
starts_three _ = false

abbrev pub starts_pair : List ℕ → Bool
starts_pair (c ∷ d ∷ cs) = is_pair c d
starts_pair _ = false

abbrev pub is_single : ℕ → Bool
is_single c = is_bracket c || takes_equals c || is_lone_mark c

abbrev pub mark_count : List ℕ → ℕ
mark_count cs = if starts_three cs then 3 else (if starts_pair cs then 2 else (if starts is_single cs then 1 else 0))

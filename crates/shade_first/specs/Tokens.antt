-- The tokens of a text.
--
-- A word is a letter and then letters, digits and `_`; a number is digits and then an optional `u`; each is as long as
-- it can be. The marks are single bytes. Blanks, the bytes 9 to 13 and 32, stand between tokens. No other byte begins
-- a token.
use Rattle.std.specs.Prelude.{◌≡◌, ℕ, ◌+◌, ◌<◌, ◌≤◌, ◌==◌, ◌&&◌, ◌||◌, nat_le, Bool, List, [], ◌∷◌, length, take, drop, slice_index, if◌then◌else◌, Some, slice_get}
use Rattle.std.specs.List.{prefix_len}
use Rattle.shade_base.specs.declared.place.Place.{Place}
use Rattle.shade_first.specs.declared.token.Mark.TheVariants.{At, Open, Close, OpenBrace, CloseBrace, Colon, Semicolon, Less}
use Rattle.shade_first.specs.declared.token.Kind.{Kind}
use Rattle.shade_first.specs.declared.token.Kind.TheVariants as kind
use Rattle.shade_first.specs.declared.token.Token.{Token}
use Rattle.shade_first.specs.declared.lex.Front.{Front}
use Rattle.shade_first.specs.declared.lex.Front.TheVariants as front
use Rattle.shade_first.specs.Lines.{place_of}

abbrev pub is_letter : ℕ → Bool
is_letter b = (nat_le 65 b && nat_le b 90) || (nat_le 97 b && nat_le b 122)

abbrev pub is_digit : ℕ → Bool
is_digit b = nat_le 48 b && nat_le b 57

abbrev pub goes_on : ℕ → Bool
goes_on b = is_letter b || is_digit b || b == 95

abbrev pub is_blank : ℕ → Bool
is_blank b = (nat_le 9 b && nat_le b 13) || b == 32

-- how many bytes the number has that stands at the front of a text that begins with a digit
abbrev pub number_size : List ℕ → ℕ
number_size text = if slice_index text (prefix_len is_digit text) == 117 then prefix_len is_digit text + 1 else prefix_len is_digit text

abbrev pub mark_front : ℕ → Front
mark_front b =
    if b == 64 then front.Token (kind.Mark At)
    else if b == 40 then front.Token (kind.Mark Open)
    else if b == 41 then front.Token (kind.Mark Close)
    else if b == 123 then front.Token (kind.Mark OpenBrace)
    else if b == 125 then front.Token (kind.Mark CloseBrace)
    else if b == 58 then front.Token (kind.Mark Colon)
    else if b == 59 then front.Token (kind.Mark Semicolon)
    else if b == 60 then front.Token (kind.Mark Less)
    else front.Nothing

-- what stands at the front of a text
abbrev pub front_of : List ℕ → Front
front_of [] = front.Nothing
front_of (b ∷ bs) =
    if is_blank b then front.Blank
    else if is_letter b then front.Token (kind.Word (take (prefix_len goes_on (b ∷ bs)) (b ∷ bs)))
    else if is_digit b then front.Token (kind.Number (take (number_size (b ∷ bs)) (b ∷ bs)))
    else mark_front b

-- a word, and nothing else
abbrev pub IsWord : List ℕ → Type 0
IsWord w = front_of w ≡ front.Token (kind.Word w)

-- how many bytes a token of this kind has
abbrev pub size_of : Kind → ℕ
size_of (kind.Word text) = length text
size_of (kind.Number text) = length text
size_of (kind.Mark m) = 1

-- what stands there has a byte, and no more than the text has
abbrev pub HasRoom : Front → List ℕ → Type 0
HasRoom front.Blank text = 0 < length text
HasRoom (front.Token k) text = (0 < size_of k) × (size_of k ≤ length text)
HasRoom front.Nothing text = Unit {0}

-- The tokens of a text from an offset on, each with its place, up to where no token begins: the first byte that begins
-- none, or the end of the text.
pub data Lexes (text : List ℕ) : ℕ → List Token → ℕ → Type 0 where
  stops : (at : ℕ) → front_of (drop at text) ≡ front.Nothing → Lexes text at [] at
  blank : (at : ℕ) {ts : List Token} {stop : ℕ} → front_of (drop at text) ≡ front.Blank → Lexes text (at + 1) ts stop → Lexes text at ts stop
  token : (at : ℕ) (k : Kind) {ts : List Token} {stop : ℕ} → front_of (drop at text) ≡ front.Token k → Lexes text (at + size_of k) ts stop → Lexes text at (record { kind = k; place = place_of text at } ∷ ts) stop

-- the words of these tokens are words
pub record AreWords (tokens : List Token) : Type 0 where
  pub words : (at : ℕ) (w : List ℕ) (p : Place) → slice_get tokens at ≡ Some (record { kind = kind.Word w; place = p }) → IsWord w

-- What a token spells: words, numbers and marks (WGSL, "Tokens").
use Rattle.std.specs.Prelude.{ℕ, ◌+◌, ◌-◌, ◌*◌, Bool, true, false, not, ◌&&◌, ◌||◌, ◌==◌, nat_lt, List, [], ◌∷◌, length, slice_get, Option, None, Some, if◌then◌else◌}
use Rattle.std.specs.List.{list_all}
use Rattle.std.specs.Char.{is_ascii_digit, is_ascii_hexdigit, digit_value}
use Rattle.unicode_ident.specs.Ident.{is_xid_start, is_xid_continue}
use Rattle.shade_lex.specs.declared.token.TokenKind.{TokenKind}
use Rattle.shade_lex.specs.declared.token.TokenKind.TheVariants.{Word, Number, Mark}
use Rattle.shade_lex.specs.declared.token.Suffix.{Suffix}
use Rattle.shade_lex.specs.declared.token.Suffix.TheVariants.{Plain, Signed, Unsigned}
use Rattle.shade_lex.specs.declared.piece.Problem.{Problem}
use Rattle.shade_lex.specs.declared.piece.Problem.TheVariants.{BadCharacter, BadNumber, NumberTooLarge, FloatLiteral}
use Rattle.shade_lex.specs.Characters.{starts}

-- an XID_Start character and XID_Continue characters, or `_` and one or more XID_Continue characters
abbrev pub is_word : List ℕ → Bool
is_word [] = false
is_word (c ∷ cs) = (is_xid_start c || (c == 95 && starts is_xid_continue cs)) && list_all is_xid_continue cs

-- `i` or `u`
abbrev pub is_suffix : ℕ → Bool
is_suffix c = c == 105 || c == 117

abbrev pub is_empty : List ℕ → Bool
is_empty [] = true
is_empty (c ∷ cs) = false

-- characters that pass a test, and then at most one suffix
abbrev pub is_run : (ℕ → Bool) → List ℕ → Bool
is_run p [] = true
is_run p (c ∷ cs) = (p c && is_run p cs) || (is_suffix c && is_empty cs)

abbrev pub is_nonzero_digit : ℕ → Bool
is_nonzero_digit c = is_ascii_digit c && not (c == 48)

-- `x` or `X`
abbrev pub is_x : ℕ → Bool
is_x c = c == 120 || c == 88

abbrev pub is_hex_tail : List ℕ → Bool
is_hex_tail [] = false
is_hex_tail (c ∷ cs) = is_x c && (starts is_ascii_hexdigit cs && is_run is_ascii_hexdigit cs)

-- `0`, or a nonzero digit and digits, or `0x` or `0X` and one or more hexadecimal digits; and a suffix or none
abbrev pub is_number : List ℕ → Bool
is_number [] = false
is_number (c ∷ cs) = (is_nonzero_digit c && is_run is_ascii_digit cs) || (c == 48 && (is_run (λ _. false) cs || is_hex_tail cs))

-- `( ) [ ] { }`
abbrev pub is_bracket : ℕ → Bool
is_bracket c = c == 40 || c == 41 || c == 91 || c == 93 || c == 123 || c == 125

-- `+ - * / % & | ^ ! < =`, which may have an `=` after them
abbrev pub takes_equals : ℕ → Bool
takes_equals c = c == 43 || c == 45 || c == 42 || c == 47 || c == 37 || c == 38 || c == 124 || c == 94 || c == 33 || c == 60 || c == 61

-- `> ~ . , ; : @ _`
abbrev pub is_lone_mark : ℕ → Bool
is_lone_mark c = c == 62 || c == 126 || c == 46 || c == 44 || c == 59 || c == 58 || c == 64 || c == 95

-- `& | < + -`, which may stand twice
abbrev pub is_doubled : ℕ → Bool
is_doubled c = c == 38 || c == 124 || c == 60 || c == 43 || c == 45

-- a mark of two characters: `&&`, `||`, `<<`, `++`, `--`, `->`, or one that ends in `=`
abbrev pub is_pair : ℕ → ℕ → Bool
is_pair c d = (d == 61 && takes_equals c) || (c == d && is_doubled c) || (c == 45 && d == 62)

-- the marks; a `>` is always one by itself
abbrev pub is_mark : List ℕ → Bool
is_mark [] = false
is_mark (c ∷ []) = is_bracket c || takes_equals c || is_lone_mark c
is_mark (c ∷ d ∷ []) = is_pair c d
is_mark (c ∷ d ∷ e ∷ []) = c == 60 && (d == 60 && e == 61)
is_mark (c ∷ d ∷ e ∷ f ∷ cs) = false

abbrev pub is_lexeme : List ℕ → Bool
is_lexeme cs = is_word cs || (is_number cs || is_mark cs)

-- whether a number is hexadecimal
abbrev pub is_hexadecimal : List ℕ → Bool
is_hexadecimal [] = false
is_hexadecimal (c ∷ cs) = starts is_x cs

-- the value of a digit, decimal or hexadecimal
abbrev pub digit_of : ℕ → ℕ
digit_of c = if nat_lt (digit_value c) 16 then digit_value c else 0

-- digits up to a suffix, after a value
abbrev pub value_run : ℕ → ℕ → List ℕ → ℕ
value_run radix value [] = value
value_run radix value (c ∷ cs) = if is_suffix c then value else value_run radix (value * radix + digit_of c) cs

abbrev pub hex_digits : List ℕ → List ℕ
hex_digits (c ∷ d ∷ cs) = cs
hex_digits _ = []

abbrev pub number_value : List ℕ → ℕ
number_value cs = if is_hexadecimal cs then value_run 16 0 (hex_digits cs) else value_run 10 0 cs

abbrev pub suffix_by : Option ℕ → Suffix
suffix_by None = Plain
suffix_by (Some c) = if c == 105 then Signed else (if c == 117 then Unsigned else Plain)

-- what the last character of a number says
abbrev pub suffix_of : List ℕ → Suffix
suffix_of cs = suffix_by (slice_get cs (length cs - 1))

-- the greatest number that a suffix allows
abbrev pub greatest : Suffix → ℕ
greatest Plain = 9223372036854775807
greatest Signed = 2147483647
greatest Unsigned = 4294967295

abbrev pub kind_of : List ℕ → TokenKind
kind_of cs = if is_word cs then Word else (if is_number cs then Number (number_value cs) (suffix_of cs) else Mark)

-- What cannot stand after a number: a decimal one goes on as a fraction or an exponent by `.`, `e`, `E`, `f` or `h`, a hexadecimal one by `.`, `p` or `P`.
abbrev pub goes_on_as_float : Bool → ℕ → Bool
goes_on_as_float true c = c == 46 || c == 112 || c == 80
goes_on_as_float false c = c == 46 || c == 101 || c == 69 || c == 102 || c == 104

-- a word that begins with `__` is kept for others
abbrev pub is_reserved : List ℕ → Bool
is_reserved [] = false
is_reserved (c ∷ rest) = c == 95 && starts (λ d. d == 95) rest

-- A number that goes on as a float, or by a letter, digit or `_`, or that is too large.
abbrev pub number_problem : List ℕ → List ℕ → Option Problem
number_problem cs after =
    if starts (goes_on_as_float (is_hexadecimal cs)) after then Some FloatLiteral
    else (if starts is_xid_continue after then Some BadNumber
    else (if nat_lt (greatest (suffix_of cs)) (number_value cs) then Some NumberTooLarge else None))

-- What is wrong with the longest lexeme at a place, before the rest of the text. Of marks, a `.` before a digit begins a float.
abbrev pub problem_of : List ℕ → List ℕ → Option Problem
problem_of cs after =
    if is_word cs then (if is_reserved cs then Some BadCharacter else None)
    else (if is_number cs then number_problem cs after
    else (if starts (λ c. c == 46) cs && starts is_ascii_digit after then Some FloatLiteral else None))

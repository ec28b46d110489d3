-- A lexeme with which something is wrong is a problem, which is none of an open comment.
use Rattle.std.proofs.Common.{◌≡◌, ℕ, List, Bool, true, false, Option, None, Some, cond, inr}
use Rattle.std.specs.Prelude.{◌&&◌, ◌==◌, nat_lt}
use Rattle.shade_lex.specs.declared.piece.Problem.{Problem}
use Rattle.shade_lex.specs.declared.piece.Problem.TheVariants.{BadCharacter, OpenComment, BadNumber, NumberTooLarge, FloatLiteral}
use Rattle.std.specs.Char.{is_ascii_digit}
use Rattle.unicode_ident.specs.Ident.{is_xid_continue}
use Rattle.shade_lex.specs.Characters.{starts}
use Rattle.shade_lex.specs.Lexemes.{is_word, is_number, is_reserved, is_hexadecimal, goes_on_as_float, greatest, suffix_of, number_value, problem_of}
use Rattle.shade_lex.specs.Pieces.{IsWrong, IsProblem}

-- choices among problems that are none of an open comment
choice : (b : Bool) (p q : Option Problem) → (p ≡ Some OpenComment → ⊥) → (q ≡ Some OpenComment → ⊥) → cond b p q ≡ Some OpenComment → ⊥
choice true p q f g = f
choice false p q f g = g

none_differs : None ≡ Some OpenComment → ⊥
none_differs e = cc

character_differs : Some BadCharacter ≡ Some OpenComment → ⊥
character_differs e = cc

number_differs : Some BadNumber ≡ Some OpenComment → ⊥
number_differs e = cc

size_differs : Some NumberTooLarge ≡ Some OpenComment → ⊥
size_differs e = cc

float_differs : Some FloatLiteral ≡ Some OpenComment → ⊥
float_differs e = cc

never_open : (cs after : List ℕ) → problem_of cs after ≡ Some OpenComment → ⊥
never_open cs after =
    choice (is_word cs) _ _ (choice (is_reserved cs) _ _ character_differs none_differs)
    (choice (is_number cs) _ _
    (choice (starts (goes_on_as_float (is_hexadecimal cs)) after) _ _ float_differs (choice (starts is_xid_continue after) _ _ number_differs (choice (nat_lt (greatest (suffix_of cs)) (number_value cs)) _ _ size_differs none_differs)))
    (choice (starts (λ c. c == 46) cs && starts is_ascii_digit after) _ _ float_differs none_differs))

pub problem-wrong : (text : List ℕ) (p : Problem) → IsWrong text p → IsProblem text p
problem-wrong text BadCharacter w = inr w
problem-wrong text OpenComment w = absurd (never_open _ _ w.wrong)
problem-wrong text BadNumber w = w
problem-wrong text NumberTooLarge w = w
problem-wrong text FloatLiteral w = w

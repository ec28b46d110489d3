use Rattle.std.proofs.Common.{◌≡◌, ◌+◌, drop, cond}
use Rattle.std.specs.Char.{is_ascii_digit, is_ascii_hexdigit}
use Rattle.shade_lex.specs.Counts.{count}
use Rattle.shade_lex.proofs.lexeme.digits_end.Given as goal

abbrev pub invariant-loop-at : goal.invariant-loop-at
invariant-loop-at l = count (cond l.hexadecimal is_ascii_hexdigit is_ascii_digit) (drop l.at l.text) + l.at ≡ count (cond l.hexadecimal is_ascii_hexdigit is_ascii_digit) (drop l.from l.text) + l.from

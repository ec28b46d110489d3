use Rattle.std.proofs.Common.{◌≡◌, drop}
use Rattle.shade_lex.specs.Lexemes.{value_run}
use Rattle.shade_lex.proofs.number.value_of.Given as goal

abbrev pub invariant-loop-c : goal.invariant-loop-c
invariant-loop-c l = value_run l.radix l.value (drop l.c-index l.digits) ≡ value_run l.radix 0 l.digits

use Rattle.std.proofs.Common.{◌≡◌, ◌+◌, drop}
use Rattle.shade_lex.specs.Tokens.{width}
use Rattle.shade_lex.proofs.lexer.width_of.Given as goal

abbrev pub invariant-loop-c : goal.invariant-loop-c
invariant-loop-c l = l.bytes + width (drop l.c-index l.characters) ≡ width l.characters

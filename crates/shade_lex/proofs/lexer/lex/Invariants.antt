use Rattle.std.proofs.Common.{◌-◌, vec_len}
use Rattle.shade_lex.proofs.LexLaws.{IsReading}
use Rattle.shade_lex.proofs.lexer.lex.Given as goal

abbrev pub invariant-pieces : goal.invariant-pieces
invariant-pieces l = IsReading l.text l.characters.items l.at l.place l.items.items

abbrev pub decreases-pieces : goal.decreases-pieces
decreases-pieces l = vec_len l.characters - l.at

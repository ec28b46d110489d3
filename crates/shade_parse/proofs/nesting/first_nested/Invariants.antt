use Rattle.shade_cursor.specs.Shown.{lexemes}
use Rattle.shade_parse.proofs.NestingLaws.{Known}
use Rattle.shade_parse.proofs.nesting.first_nested.Given as goal

abbrev pub invariant-tokens : goal.invariant-tokens
invariant-tokens l = Known (lexemes l.pieces) l.at l.walk

use Rattle.shade_cursor.specs.Shown.{lexemes}
use Rattle.shade_cursor.proofs.DepthLaws.{Known}
use Rattle.shade_cursor.proofs.depths.first_deep.Given as goal

abbrev pub invariant-tokens : goal.invariant-tokens
invariant-tokens l = Known (lexemes l.pieces) l.from l.at l.walk

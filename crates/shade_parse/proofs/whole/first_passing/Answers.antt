use Rattle.shade_cursor.specs.Shown.{lexemes}
use Rattle.shade_cursor.specs.Depths.{IsDeep}
use Rattle.shade_parse.specs.Nesting.{IsNested}
use Rattle.shade_parse.proofs.WholeLaws.{earlier_found}
use Rattle.shade_parse.proofs.whole.first_passing.Goals as goal

pub returns-clause-first : goal.returns-clause-first
returns-clause-first c = earlier_found (λ k. IsDeep (lexemes c.args.pieces.now) 0 k) (λ k. IsNested (lexemes c.args.pieces.now) k) c.in_ok-deep.deep c.in_ok-nested.nested c.earlier.result c.earlier.ensures c.in_ok-deep.ensures.deep c.in_ok-nested.ensures.nested

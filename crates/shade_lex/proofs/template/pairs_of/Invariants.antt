use Rattle.std.proofs.Common.{◌≡◌, ◌++◌, drop}
use Rattle.shade_lex.specs.Templates.{pairs_from}
use Rattle.shade_lex.proofs.template.pairs_of.Given as goal

abbrev pub invariant-loop-at : goal.invariant-loop-at
invariant-loop-at l = l.pairs.items ++ pairs_from l.tokens l.at (drop l.at l.closers) ≡ pairs_from l.tokens 0 l.closers

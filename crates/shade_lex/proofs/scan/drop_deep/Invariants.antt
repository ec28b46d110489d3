use Rattle.std.proofs.Common.{◌≡◌, vec_len}
use Rattle.std.specs.Prelude.{reverse}
use Rattle.shade_lex.specs.Scan.{below}
use Rattle.shade_lex.proofs.scan.drop_deep.Given as goal

abbrev pub invariant-deep : goal.invariant-deep
invariant-deep l = below l.depth (reverse l.candidates.items) ≡ below l.depth (reverse l.initial.candidates.items)

abbrev pub decreases-deep : goal.decreases-deep
decreases-deep l = vec_len l.candidates

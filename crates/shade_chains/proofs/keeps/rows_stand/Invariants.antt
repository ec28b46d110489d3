use Rattle.std.proofs.Common.{length, map}
use Rattle.shade_chains.proofs.KeepLaws.{StandBelow}
use Rattle.shade_chains.proofs.keeps.rows_stand.Given as goal

abbrev pub invariant-rows : goal.invariant-rows
invariant-rows l = StandBelow (map (λ r. r.items) l.rows) (length l.rows) l.row-index

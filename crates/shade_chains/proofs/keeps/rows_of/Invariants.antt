use Rattle.std.proofs.Common.{◌≡◌, map, take}
use Rattle.shade_chains.specs.Tops.{rows_in}
use Rattle.shade_chains.proofs.keeps.rows_of.Given as goal

abbrev pub invariant-functions : goal.invariant-functions
invariant-functions l = map (λ r. r.items) l.rows.items ≡ rows_in (take l.function-index l.functions)

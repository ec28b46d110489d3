use Rattle.std.proofs.Common.{◌≡◌, ◌++◌, drop}
use Rattle.shade_known.specs.Conversions.{cut_all}
use Rattle.shade_known.proofs.convert.cut_all.Given as goal

abbrev pub invariant-loop-k : goal.invariant-loop-k
invariant-loop-k l = l.made ++ cut_all (drop l.k l.to) (drop l.k l.values) ≡ cut_all l.to l.values

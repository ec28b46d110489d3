use Rattle.std.proofs.Common.{◌*ℤ◌}
use Rattle.shade_values.specs.Parts.{lane}
use Rattle.shade_evaluate.proofs.ProductLaws.{IsSum}
use Rattle.shade_evaluate.proofs.products.dot_fits.Given as goal

abbrev pub invariant-loop-k : goal.invariant-loop-k
invariant-loop-k l = IsSum (λ k. (lane k l.left).number *ℤ (lane k l.right).number) l.k l.sum.high l.sum.low

use Rattle.std.proofs.Common.{◌≡◌, replicate}
use Rattle.shade_makes.specs.Zeros.{zero}
use Rattle.shade_makes.proofs.zeros.filled.Given as goal

abbrev pub invariant-loop-part : goal.invariant-loop-part
invariant-loop-part l = l.parts ≡ replicate l._part (zero l.scalar)

use Rattle.std.proofs.Common.{◌≡◌, false, replicate}
use Rattle.shade_declared.proofs.taking.all_false.Given as goal

abbrev pub invariant-loop-number : goal.invariant-loop-number
invariant-loop-number l = l.made.items ≡ replicate l._number false

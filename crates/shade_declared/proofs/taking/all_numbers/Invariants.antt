use Rattle.std.proofs.Common.{◌≡◌}
use Rattle.shade_declared.specs.Order.{numbers}
use Rattle.shade_declared.proofs.taking.all_numbers.Given as goal

abbrev pub invariant-loop-number : goal.invariant-loop-number
invariant-loop-number l = l.made.items ≡ numbers l.number

use Rattle.shade_overload.proofs.Conversions.{BecomeBelow}
use Rattle.shade_overload.proofs.conversion.all_become.Given as goal

abbrev pub invariant-loop-place : goal.invariant-loop-place
invariant-loop-place l = BecomeBelow l.place l.from l.to

use Rattle.std.proofs.Common.{◌≡◌, ◌++◌, drop, map}
use Rattle.shade_known.specs.Operates.{asked_of}
use Rattle.shade_known.proofs.rows.asked_all.Given as goal

abbrev pub invariant-loop-place : goal.invariant-loop-place
invariant-loop-place l = l.made.items ++ map asked_of (drop l.place l.params) ≡ map asked_of l.params

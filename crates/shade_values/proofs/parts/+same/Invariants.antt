use Rattle.std.proofs.Common.{◌≡◌, take}
use Rattle.shade_values.proofs.parts.+same.Given as goal

abbrev pub invariant-same_parts-loop-i : goal.invariant-same_parts-loop-i
invariant-same_parts-loop-i l = take l.i l.xs ≡ take l.i l.ys

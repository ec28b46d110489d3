use Rattle.std.proofs.Common.{◌≡◌, take, map}
use Rattle.shade_evaluate.specs.Fits.{value_as}
use Rattle.shade_evaluate.proofs.conversions.+converts.Given as goal

abbrev pub invariant-parts_as-loop-part : goal.invariant-parts_as-loop-part
invariant-parts_as-loop-part l = l.made ≡ map (value_as l.to) (take l.part-index l.part-items)

use Rattle.std.proofs.Common.{◌≡◌, take, map}
use Rattle.shade_known.specs.Conversions.{cut_to}
use Rattle.shade_known.proofs.convert.+cuts.Given as goal

abbrev pub invariant-cut_parts-loop-part : goal.invariant-cut_parts-loop-part
invariant-cut_parts-loop-part l = l.made ≡ map (cut_to l.to) (take l.part-index l.part-items)

use Rattle.std.proofs.Common.{◌≡◌, take}
use Rattle.shade_values.proofs.parts.+copies.Given as goal

abbrev pub invariant-copy_parts-loop-part : goal.invariant-copy_parts-loop-part
invariant-copy_parts-loop-part l = l.copies ≡ take l.part-index l.part-items

use Rattle.std.proofs.Common.{take}
use Rattle.shade_cursor.specs.Shown.{AreEnds}
use Rattle.shade_cursor.proofs.pieces.ends_of.Given as goal

abbrev pub invariant-loop-pair : goal.invariant-loop-pair
invariant-loop-pair l = AreEnds l.opens l.closes (take l.pair-index l.pairs)

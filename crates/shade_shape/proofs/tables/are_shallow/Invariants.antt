use Rattle.std.proofs.Common.{◌<◌, take}
use Rattle.std.specs.Prelude.{All}
use Rattle.shade_shape.proofs.tables.are_shallow.Given as goal

abbrev pub invariant-loop-depth : goal.invariant-loop-depth
invariant-loop-depth l = All (λ depth. depth < 256) (take l.depth-index l.depths)

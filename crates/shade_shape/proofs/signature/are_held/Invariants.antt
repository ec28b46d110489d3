use Rattle.std.proofs.Common.{take}
use Rattle.std.specs.Prelude.{All}
use Rattle.shade_core.specs.Types.{NamesHeld}
use Rattle.shade_shape.proofs.signature.are_held.Given as goal

abbrev pub invariant-loop-id : goal.invariant-loop-id
invariant-loop-id l = All (NamesHeld l.types) (take l.id-index l.ids)

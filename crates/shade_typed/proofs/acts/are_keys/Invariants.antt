use Rattle.std.proofs.Common.{take}
use Rattle.std.specs.Prelude.{All}
use Rattle.shade_core.specs.Fits.{IsKey}
use Rattle.shade_typed.proofs.acts.are_keys.Given as goal

abbrev pub invariant-loop-key : goal.invariant-loop-key
invariant-loop-key l = All (IsKey l.scalar) (take l.key-index l.keys)

use Rattle.shade_base.proofs.KnownLemmas.{Appends-take, le_of_rest}
use Rattle.shade_base.proofs.outside.write_whole.Goals as goal

pub pieces-preserved : goal.pieces-preserved
pieces-preserved g c =
    (le_of_rest _ _ _ c.pieces.invariant.0 c.in-Ok.ensures.bound, Appends-take _ _ _ _ _ _ c.pieces.invariant.1 c.in-Ok.ensures.bytes)

use Rattle.shade_flow.proofs.ChunkSteps.{searched}
use Rattle.shade_flow.proofs.chunks.chunk_of.Goals as goal

pub returns-clause-rows : goal.returns-clause-rows
returns-clause-rows c =
    searched _ _ _ _ _ _ _ c.in_ok-copied.ensures c.requires.few (rw (c.deref-2.ensures.value, c.deref-3.ensures.value) at c.in_ok-rows.ensures) c.in_ok-starts.ensures c.in_ok-makes.ensures c.in_ok-passes.ensures (rw c.deref.ensures.value at c.stop_all.ensures)

use Rattle.shade_flow.proofs.ChunkLaws.{are_kept}
use Rattle.shade_flow.proofs.search.reaching.Goals as goal

pub returns : goal.returns
returns c = are_kept c.args.function.now _ _ _ c.in_ok-routes.ensures (rw c.deref.ensures.value at c.in_ok-definitions.ensures) (rw c.deref-2.ensures.value at c.in_ok-chunks.ensures.definitions) c.in_ok-chunks.ensures.rows

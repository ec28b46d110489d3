use Rattle.std.proofs.Common.{sym, ◌∙◌}
use Rattle.shade_flow.proofs.ChunkSteps.{chunk_added, rows_added, all_added}
use Rattle.shade_flow.proofs.chunks.chunks_of.Goals as goal

pub rest-preserved : goal.rest-preserved
rest-preserved c = record {
  definitions = chunk_added _ _ _ _ _ _ _ c.in_ok-push.ensures.items c.split_at.ensures.by_index.0 c.in_ok-chunk_of.ensures.definitions c.rest.invariant.definitions;
  rows = rows_added _ _ _ _ c.in_ok-push.ensures.items c.rest.invariant.rows c.in_ok-chunk_of.ensures.rows;
}

pub returns-clause-definitions : goal.returns-clause-definitions
returns-clause-definitions c = all_added c.rest.chunks.items c.rest.rest.now _ (sym c.rest-test.false ∙ c.is_empty.ensures) c.rest.invariant.definitions

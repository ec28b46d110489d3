use Rattle.shade_flow.proofs.BitLaws.{stopped_step}
use Rattle.shade_flow.proofs.tables.stop_all.Goals as goal

pub loop-write-preserved : goal.loop-write-preserved
loop-write-preserved c = stopped_step c.args.definitions.now c.args.writes.now c.loop-write.write-index _ _ _ _ c.loop-write-test.true c.loop-write.invariant c.stop.ensures

use Rattle.std.proofs.Common.{take}
use Rattle.shade_flow.specs.Tables.{AreStopped}
use Rattle.shade_flow.proofs.tables.stop_all.Given as goal

abbrev pub invariant-loop-write : goal.invariant-loop-write
invariant-loop-write l = AreStopped l.definitions (take l.write-index l.writes) l.initial.rows.items l.rows.items

use Rattle.std.proofs.Common.{◌≡◌}
use Rattle.shade_flow.specs.Tables.{made_at, AreBits}
use Rattle.shade_flow.proofs.tables.made.Given as goal

abbrev pub invariant-loop-defined : goal.invariant-loop-defined
invariant-loop-defined l = record { bit : l.bit ≡ l.defined-index; rows : AreBits made_at l.definitions l.defined-index l.nodes l.rows.items }

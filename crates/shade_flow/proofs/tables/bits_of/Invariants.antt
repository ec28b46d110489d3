use Rattle.std.proofs.Common.{◌≡◌}
use Rattle.shade_flow.specs.Tables.{AreBitsOf}
use Rattle.shade_flow.proofs.tables.bits_of.Given as goal

abbrev pub invariant-loop-defined : goal.invariant-loop-defined
invariant-loop-defined l = record { bit : l.bit ≡ l.defined-index; word : AreBitsOf l.variable l.definitions l.defined-index l.word }

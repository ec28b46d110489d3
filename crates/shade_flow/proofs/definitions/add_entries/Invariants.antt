use Rattle.std.proofs.Common.{◌≡◌, ◌++◌, drop}
use Rattle.shade_flow.specs.Definitions.{entries_from}
use Rattle.shade_flow.proofs.definitions.add_entries.Given as goal

abbrev pub invariant-loop-param : goal.invariant-loop-param
invariant-loop-param l = (l.number ≡ l.param-index) × (l.out.items ++ entries_from l.number (drop l.param-index l.params) ≡ l.initial.out.items ++ entries_from 0 l.params)

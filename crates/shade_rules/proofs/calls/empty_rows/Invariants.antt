use Rattle.shade_rules.specs.Gathered.{IsUnknown}
use Rattle.shade_rules.proofs.calls.empty_rows.Given as goal

abbrev pub invariant-loop : goal.invariant-loop
invariant-loop l = IsUnknown l.counter l.rows.items

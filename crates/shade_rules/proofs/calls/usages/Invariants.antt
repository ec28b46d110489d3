use Rattle.shade_rules.proofs.RowLaws.{IsGathered}
use Rattle.shade_rules.proofs.calls.usages.Given as goal

abbrev pub invariant-functions : goal.invariant-functions
invariant-functions l = IsGathered l.functions l.order l.number-index l.rows.items

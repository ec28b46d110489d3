use Rattle.std.proofs.Common.{◌≡◌}
use Rattle.shade_rules.proofs.ScanLaws.{NoClash}
use Rattle.shade_rules.proofs.aliasing.first_alias.Given as goal

abbrev pub invariant-arguments : goal.invariant-arguments
invariant-arguments l = record {
  place : l.first ≡ l.arg-index;
  none : NoClash l.row l.args l.first;
}

use Rattle.std.proofs.Common.{◌≡◌}
use Rattle.shade_rules.proofs.ScanLaws.{NoneBefore}
use Rattle.shade_rules.proofs.aliasing.first_later.Given as goal

abbrev pub invariant-arguments : goal.invariant-arguments
invariant-arguments l = record {
  place : l.at ≡ l.arg-index;
  none : NoneBefore l.row l.args l.number l.base l.at;
}

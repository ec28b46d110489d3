use Rattle.std.proofs.Common.{◌≡◌}
use Rattle.shade_verdict.specs.Found.{AreFound, NoNode, AreSmall}
use Rattle.shade_verdict.proofs.verdict.violations_of.Given as goal

abbrev pub invariant-functions : goal.invariant-functions
invariant-functions l = record {
  count : l.number ≡ l.function-index;
  found : AreFound l.functions l.number 0 NoNode l.out.items;
  small : AreSmall l.functions l.number;
}

use Rattle.std.proofs.Common.{◌≡◌}
use Rattle.shade_rules.specs.Gathered.{ByArguments}
use Rattle.shade_rules.specs.Sets.{Adds, HasUsage}
use Rattle.shade_rules.proofs.gather.add_arguments.Given as goal

abbrev pub invariant-arguments : goal.invariant-arguments
invariant-arguments l = record {
  place : l.number ≡ l.arg-index;
  gives : Adds l.initial.out l.out (ByArguments (HasUsage l.callee) l.args l.arg-index);
}

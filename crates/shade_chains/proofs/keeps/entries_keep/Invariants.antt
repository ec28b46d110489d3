use Rattle.std.proofs.Common.{◌≡◌}
use Rattle.shade_chains.proofs.KeepLaws.{KeepBelow}
use Rattle.shade_chains.proofs.keeps.entries_keep.Given as goal

abbrev pub invariant-functions : goal.invariant-functions
invariant-functions l = record {
  at : l.number ≡ l.function-index;
  below : KeepBelow l.functions l.tops l.most l.number;
}

use Rattle.std.proofs.Common.{◌≡◌}
use Rattle.shade_typed.proofs.ArgumentLaws.{SuitFrom}
use Rattle.shade_typed.proofs.arguments.all_suit.Given as goal

abbrev pub invariant-arguments : goal.invariant-arguments
invariant-arguments l = record {
  at : l.place ≡ l.argument-index;
  suit : SuitFrom l.context l.arguments l.params l.place;
}

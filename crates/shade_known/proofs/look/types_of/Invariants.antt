use Rattle.std.proofs.Common.{◌≡◌, ◌++◌, drop}
use Rattle.std.specs.Prelude.{All}
use Rattle.shade_values.specs.Sound.{IsOf}
use Rattle.shade_known.specs.Lookups.{types_of}
use Rattle.shade_known.proofs.look.types_of.Given as goal

abbrev pub invariant-loop-operand : goal.invariant-loop-operand
invariant-loop-operand l = record {
  typed : l.made.items ++ types_of l.known (drop l.operand-index l.operands) ≡ types_of l.known l.operands;
  of : All (IsOf l.known.types) l.made.items;
}

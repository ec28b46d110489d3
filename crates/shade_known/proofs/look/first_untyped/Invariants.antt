use Rattle.std.proofs.Common.{◌≡◌, drop}
use Rattle.shade_known.specs.Lookups.{first_untyped}
use Rattle.shade_known.proofs.look.first_untyped.Given as goal

abbrev pub invariant-loop-operand : goal.invariant-loop-operand
invariant-loop-operand l = first_untyped l.known (drop l.operand-index l.operands) ≡ first_untyped l.known l.operands

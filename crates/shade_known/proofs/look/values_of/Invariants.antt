use Rattle.std.proofs.Common.{◌≡◌, drop}
use Rattle.shade_known.specs.Lookups.{values_of}
use Rattle.shade_known.proofs.Turns.{with_front}
use Rattle.shade_known.proofs.look.values_of.Given as goal

abbrev pub invariant-loop-operand : goal.invariant-loop-operand
invariant-loop-operand l = with_front l.made (values_of l.facts (drop l.operand-index l.operands)) ≡ values_of l.facts l.operands

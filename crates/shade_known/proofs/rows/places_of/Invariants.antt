use Rattle.std.proofs.Common.{◌≡◌, take, map}
use Rattle.shade_known.specs.declared.known.Operand.{Operand}
use Rattle.shade_known.proofs.rows.places_of.Given as goal

abbrev pub invariant-loop-operand : goal.invariant-loop-operand
invariant-loop-operand l = l.made.items ≡ map (λ (x : Operand). x.place) (take l.operand-index l.operands)

use Rattle.std.proofs.Common.{◌≡◌, Some, map, take}
use Rattle.shade_slots.proofs.slots.as_values.Given as goal

abbrev pub invariant-locals : goal.invariant-locals
invariant-locals l = l.values.items ≡ map (λ id. Some id) (take l.id-index l.locals)

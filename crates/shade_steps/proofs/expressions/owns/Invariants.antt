use Rattle.std.proofs.Common.{◌≡◌, map, take}
use Rattle.shade_steps.specs.Steps.{part_of}
use Rattle.shade_steps.proofs.expressions.owns.Given as goal

abbrev pub invariant-loop-e : goal.invariant-loop-e
invariant-loop-e l = l.made ≡ map (λ e. (part_of e).own) (take l.e-index l.e-items)

use Rattle.std.proofs.Common.{◌≡◌, ◌∷◌, map, take}
use Rattle.shade_verdict.specs.Violations.{plain_step}
use Rattle.shade_verdict.specs.Found.{node_at}
use Rattle.shade_verdict.proofs.verdict.path_steps.Given as goal

abbrev pub invariant-numbers : goal.invariant-numbers
invariant-numbers l = l.steps ≡ map plain_step (l.fn.required ∷ map (node_at l.nodes) (take l.number-index l.numbers))

use Rattle.std.proofs.Common.{◌≡◌, map, take}
use Rattle.shade_flow.specs.Tables.{numbers}
use Rattle.shade_flow.proofs.numbers.numbered.Given as goal

abbrev pub invariant-loop-step : goal.invariant-loop-step
invariant-loop-step l = l.edges.items ≡ map numbers (take l.step-index l.steps)

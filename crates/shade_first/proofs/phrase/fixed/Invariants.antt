use Rattle.std.proofs.Common.{map, drop}
use Rattle.shade_first.specs.Form.{Sequence}
use Rattle.shade_first.specs.Steps.{kind_of}
use Rattle.shade_first.proofs.Stages.{Stage}
use Rattle.shade_first.proofs.phrase.fixed.Given as goal

abbrev pub invariant-steps : goal.invariant-steps
invariant-steps l = Stage (Sequence (map kind_of l.steps)) l.tokens l.from l.at (Sequence (map kind_of (drop l.step-index l.steps)))

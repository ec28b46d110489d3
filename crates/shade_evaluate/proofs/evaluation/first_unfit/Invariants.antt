use Rattle.std.proofs.Common.{◌≡◌, drop}
use Rattle.shade_evaluate.specs.Evaluate.{first_unfit}
use Rattle.shade_evaluate.proofs.evaluation.first_unfit.Given as goal

abbrev pub invariant-loop-k : goal.invariant-loop-k
invariant-loop-k l = first_unfit l.op (drop l.k l.to) (drop l.k l.values) (drop l.k l.places) ≡ first_unfit l.op l.to l.values l.places

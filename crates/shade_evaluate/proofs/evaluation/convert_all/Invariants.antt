use Rattle.std.proofs.Common.{◌≡◌, ◌++◌, drop, take, length}
use Rattle.shade_evaluate.specs.Evaluate.{asked_all}
use Rattle.shade_evaluate.proofs.evaluation.convert_all.Given as goal

abbrev pub invariant-loop-k : goal.invariant-loop-k
invariant-loop-k l = record {
  converted : take l.k l.values ++ asked_all l.op (drop l.k l.to) (drop l.k l.values) ≡ asked_all l.op l.to l.initial.values;
  as_many : length l.values ≡ length l.initial.values;
}

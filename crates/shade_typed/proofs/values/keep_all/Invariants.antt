use Rattle.shade_typed.proofs.ValueLaws.{FitFrom, standings}
use Rattle.shade_typed.specs.Values.{IsSameFunction}
use Rattle.shade_typed.proofs.values.keep_all.Given as goal

abbrev pub invariant-statements : goal.invariant-statements
invariant-statements l = record {
  fit : FitFrom l.initial.context l.context (standings l.listed) l.statement-index;
  same : IsSameFunction l.initial.context l.context;
}

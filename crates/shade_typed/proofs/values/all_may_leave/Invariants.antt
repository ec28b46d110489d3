use Rattle.std.proofs.Common.{take}
use Rattle.std.specs.Prelude.{All}
use Rattle.shade_typed.proofs.ValueLaws.{MayLeaveBy, standings}
use Rattle.shade_typed.proofs.values.all_may_leave.Given as goal

abbrev pub invariant-statements : goal.invariant-statements
invariant-statements l = All (MayLeaveBy l.context) (take l.statement-index (standings l.listed))

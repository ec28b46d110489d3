use Rattle.std.proofs.Common.{◌≡◌, drop}
use Rattle.shade_core.specs.Code.{code_of}
use Rattle.shade_lane.specs.Lane.{ends_in_return}
use Rattle.shade_lane.proofs.CaseLaws.{ends_after}
use Rattle.shade_lane.proofs.cases.ends_in_return.Given as goal

abbrev pub invariant-statements : goal.invariant-statements
invariant-statements l = ends_after l.ends (drop l.statement-index l.statement-items) ≡ ends_in_return (code_of l.statement-items)

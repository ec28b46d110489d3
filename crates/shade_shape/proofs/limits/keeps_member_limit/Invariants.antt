use Rattle.std.proofs.Common.{◌-◌, ◌≤◌}
use Rattle.shade_shape.proofs.BoundLaws.{FewBelow}
use Rattle.shade_shape.proofs.limits.keeps_member_limit.Given as goal

abbrev pub invariant-types : goal.invariant-types
invariant-types l = record {
  within : l.number ≤ l.count;
  few : FewBelow l.table l.number;
}

abbrev pub decreases-types : goal.decreases-types
decreases-types l = l.count - l.number

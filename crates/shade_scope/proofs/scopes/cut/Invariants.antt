use Rattle.std.proofs.Common.{◌≡◌, take, length}
use Rattle.shade_scope.specs.Index.{IsIndexed}
use Rattle.shade_scope.proofs.scopes.cut.Given as goal

abbrev pub invariant-loop-kept : goal.invariant-loop-kept
invariant-loop-kept l = record {
  first : take l.count l.kept ≡ take l.count l.initial.kept;
  indexed : IsIndexed l.kept l.last;
}

abbrev pub decreases-loop-kept : goal.decreases-loop-kept
decreases-loop-kept l = length l.kept

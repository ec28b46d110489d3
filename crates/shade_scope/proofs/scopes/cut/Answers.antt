use Rattle.std.proofs.Common.{arith}
use Rattle.shade_scope.proofs.EndLaws.{cut_turn, shorter}
use Rattle.shade_scope.proofs.scopes.cut.Goals as goal

pub loop-kept-preserved : goal.loop-kept-preserved
loop-kept-preserved c = record {
  first = cut_turn c.args.count _ _ c.forget.ensures.rest (omega arith) c.loop-kept.invariant.first;
  indexed = c.forget.ensures.indexed;
}

pub loop-kept-smaller : goal.loop-kept-smaller
loop-kept-smaller c = shorter c.args.count _ _ c.forget.ensures.rest (omega arith)

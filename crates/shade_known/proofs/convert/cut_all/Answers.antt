use Rattle.std.proofs.Common.{ap, ◌∙◌, ◌++◌, ◌∷◌, []}
use Rattle.shade_known.proofs.Turns.{cut_turn}
use Rattle.shade_known.proofs.convert.cut_all.Goals as goal

pub loop-k-preserved : goal.loop-k-preserved
loop-k-preserved c =
    cut_turn c.args.to.now c.args.values.now c.loop-k.k c.index-values-k.result c.asked_at.result c.loop-k.made c.loop-k-test.true c.index-values-k.is c.asked_at.ensures
    (c.in_ok-push.ensures.ok ∙ ap (λ z. c.loop-k.made ++ z ∷ []) c.in_ok-cut.ensures) c.loop-k.invariant

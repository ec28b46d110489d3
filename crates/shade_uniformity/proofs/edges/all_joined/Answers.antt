use Rattle.std.proofs.Common.{subst, List}
use Rattle.std.proofs.lemmas.List.{take_all}
use Rattle.shade_uniformity.specs.declared.rows.Given.{Given}
use Rattle.shade_uniformity.specs.Joined.{AreJoined}
use Rattle.shade_uniformity.proofs.JoinLaws.{joined_none, joined_at}
use Rattle.shade_uniformity.proofs.edges.all_joined.Goals as goal

pub rows-init : goal.rows-init
rows-init c = rw c.new-edges.ensures.items (joined_none c.args.nodes.now)

pub rows-preserved : goal.rows-preserved
rows-preserved c = joined_at c.args.nodes.now c.args.rows.now c.rows.row-index _ _ _ c.rows-test.true c.rows.invariant c.in_ok-add_joined.ensures

pub returns : goal.returns
returns c =
    subst (λ (x : List Given). AreJoined c.args.nodes.now x c.rows.edges.items) (take_all _ c.args.rows.now c.rows-test.false) c.rows.invariant

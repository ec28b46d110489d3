use Rattle.std.proofs.Common.{List, subst}
use Rattle.shade_uniformity.specs.declared.rows.Given.{Given}
use Rattle.shade_uniformity.specs.Joined.{AreJoined}
use Rattle.shade_uniformity.proofs.JoinLaws.{are_given}
use Rattle.shade_uniformity.proofs.edges.given_edges.Goals as goal

pub returns : goal.returns
returns c =
    are_given c.args.checked.now c.args.function.now c.args.nodes.now c.in_ok-rows.rows.items c.in_ok-edges.edges.items c.requires.nodes c.requires.ascending c.in_ok-rows.ensures
    (subst (λ (l : List Given). AreJoined c.args.nodes.now l c.in_ok-edges.edges.items) c.deref.ensures.value c.in_ok-edges.ensures)

use Rattle.std.proofs.Common.{subst, List}
use Rattle.std.proofs.lemmas.List.{take_all}
use Rattle.shade_graph.specs.Numbered.{Pair, IsNumbered}
use Rattle.shade_graph.proofs.Numbering.{numbered_none, numbered_at}
use Rattle.shade_graph.proofs.graph.numbered.Goals as goal

pub pairs-init : goal.pairs-init
pairs-init c = rw c.new-edges.ensures.items (numbered_none c.args.nodes.now)

pub pairs-preserved : goal.pairs-preserved
pairs-preserved c = numbered_at _ _ _ _ _ _ c.pairs-test.true c.pairs.invariant c.in_ok-number_pair.ensures

pub returns : goal.returns
returns c =
    subst (λ (x : List Pair). IsNumbered c.args.nodes.now x c.pairs.edges.items) (take_all _ c.args.pairs.now c.pairs-test.false) c.pairs.invariant

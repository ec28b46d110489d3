use Rattle.shade_core_tests.proofs.reach.gives.Goals as goal

pub new-requires : goal.new-requires
new-requires c = rw c.deref.ensures.value at (c.joins_nodes.ensures c.if-not-joins_nodes.false)

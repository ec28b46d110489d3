use Rattle.std.proofs.Common.{arith, List, subst}
use Rattle.std.specs.Prelude.{◌↔◌, Contains}
use Rattle.shade_graph.specs.declared.node.Node.{Node}
use Rattle.shade_graph.proofs.LimitLaws.{many_params, too_many}
use Rattle.shade_graph.proofs.graph.few_gathered.Goals as goal

pub returns-then-len-gt-MOST_NODES-clause-refused : goal.returns-then-len-gt-MOST_NODES-clause-refused
returns-then-len-gt-MOST_NODES-clause-refused c = many_params c.args.function.now (omega (arith, c.if-len-gt-MOST_NODES.true, c.len.ensures))

pub returns-then-len-gt-MOST_NODES-2-clause-refused : goal.returns-then-len-gt-MOST_NODES-2-clause-refused
returns-then-len-gt-MOST_NODES-2-clause-refused c =
    too_many c.args.function.now c.in_order-nodes.result.items c.in_order-nodes.ensures.ascending
    (subst (λ (all : List Node). (u : Node) → Contains c.in_order-nodes.result.items u ↔ Contains all u) c.in_ok-nodes.ensures.nodes c.in_order-nodes.ensures.same)
    (omega (arith, c.if-len-gt-MOST_NODES-2.true, c.len-2.ensures))

pub returns-clause-same : goal.returns-clause-same
returns-clause-same c = subst (λ (all : List Node). (u : Node) → Contains c.in_order-nodes.result.items u ↔ Contains all u) c.in_ok-nodes.ensures.nodes c.in_order-nodes.ensures.same

pub returns-clause-ascending : goal.returns-clause-ascending
returns-clause-ascending c = c.in_order-nodes.ensures.ascending
